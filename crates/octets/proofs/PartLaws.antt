-- Parts of a list of bytes, and stores one after the other. Assumes nothing.
use Rattle.std.proofs.Common.{◌≡◌, refl, sym, ap, ◌∙◌, List, ◌++◌, append_assoc, ℕ, ◌+◌, ◌-◌, ◌≤◌, ◌<◌, arith, length, get_or, take, drop, length-drop, take_at, drop_at, take-add, length-take-le}
use lib.Seq.{sets, sets-eq, drop-drop, get_or-take, get_or-drop}
use borrow.Rule.Slice.PartMut.{put_mid}
use Rattle.octets.specs.Bytes.{part}

-- the length of a part
pub part_length : (at k : ℕ) (l : List ℕ) → at + k ≤ length l → length (part at k l) ≡ k
part_length at k l h = length-take-le k (drop at l) (rw (length-drop at l) (omega arith))

-- element i of a part
pub part_get : (at k : ℕ) (l : List ℕ) (i : ℕ) → i < k → get_or (part at k l) i 0 ≡ get_or l (at + i) 0
part_get at k l i h = get_or-take k (drop at l) i 0 h ∙ get_or-drop at l i 0

-- two parts, one where the other ends, are one part
pub part_join : (l : List ℕ) (at j k : ℕ) {a b : List ℕ} → a ≡ part at j l → b ≡ part (at + j) k l → a ++ b ≡ part at (j + k) l
part_join l at j k {a} {b} p q =
    ap (λ (r : List ℕ). r ++ b) p
    ∙ ap (λ (r : List ℕ). part at j l ++ r) (q ∙ ap (λ (r : List ℕ). take k r) (sym (drop-drop j at l)))
    ∙ sym (take-add j k (drop at l))

-- the part that is all of the middle of three
pub part_middle : (a b c : List ℕ) (at k : ℕ) → length a ≡ at → length b ≡ k → part at k (a ++ (b ++ c)) ≡ b
part_middle a b c at k e h = ap (λ (l : List ℕ). take k l) (drop_at a (b ++ c) at e) ∙ take_at b c k h

-- what was stored stands there
pub part_sets : (d l : List ℕ) (at : ℕ) → at + length l ≤ length d → part at (length l) (sets d at l) ≡ l
part_sets d l at h =
    ap (part at (length l)) (sets-eq l d at h ∙ append_assoc (take at d) l (drop (at + length l) d))
    ∙ part_middle (take at d) l (drop (at + length l) d) at (length l) (length-take-le at d (omega arith)) refl

-- byte i of those that are stored stands there
pub get_inside : (d l : List ℕ) (at i : ℕ) → i < length l → at + length l ≤ length d → get_or (sets d at l) (at + i) 0 ≡ get_or l i 0
get_inside d l at i h g =
    sym (part_get at (length l) (sets d at l) i h) ∙ ap (λ (s : List ℕ). get_or s i 0) (part_sets d l at g)

-- what is written to `d[at..at + k]` is stored there
pub put_mid-sets : (d l : List ℕ) (at k : ℕ) → length l ≡ k → at + k ≤ length d → put_mid at (at + k - at) d l ≡ sets d at l
put_mid-sets d l at k e h =
    let n : at + k - at ≡ k = omega arith in
    let m : at + length l ≡ at + k = omega arith in
    rw (n, sets-eq l d at (omega arith), m, append_assoc, drop-drop) refl
