-- Entries two to a byte. Assumes nothing.
use mathlib.Core.Path.{◌≡◌, refl, sym, ap, ◌∙◌}
use mathlib.Core.List.{List}
use Prim.Native.Nat.{ℕ, zero, suc, ◌+◌, ◌*◌, ◌≤◌, ◌<◌}
use native.Mathlib.Omega.{arith}
use lib.ListN.{length, get_or}
use lib.Seq.{ext_get_or}
use Rattle.octets.specs.Bytes.{part, half}
use Rattle.blocks.specs.File.{pairs}
use Rattle.octets.proofs.PartLaws.{part_length, part_get}
use Rattle.blocks.proofs.SumLaws.{ByteSum, sum_cons}
use mathlib.Core.Logic.{◌≢◌}
use mathlib.Core.List.{List, ◌∷◌}
use Prim.Native.Nat.{ℕ, zero, suc, ◌+◌, ◌*◌, ◌≤◌, ◌<◌}
use lib.ListN.{length, get_or, set, replicate}

-- half r of the byte of two entries of four bits is the one r after the first
pub half_pair : (e : ℕ → ℕ) → ((j : ℕ) → e j < 16) → (r m : ℕ) → r < 2 → half (e m + 16 * e (suc m)) r ≡ e (m + r)
unfolding half
half_pair e h zero m g =
    let p : m + 0 ≡ m = omega arith in
    rw p (omega (arith, h m))
half_pair e h (suc zero) m g =
    let p : m + 1 ≡ suc m = omega arith in
    rw p (omega (arith, h m, h (suc m)))
half_pair e h (suc (suc r)) m g = absurd (omega arith)

-- n bytes of entries are n
pub length_pairs : (e : ℕ → ℕ) (j n : ℕ) → length (pairs e j n) ≡ n
length_pairs e j zero = refl
length_pairs e j (suc n) = ap suc (length_pairs e (suc (suc j)) n)

-- entries of four bits make bytes
pub small_pairs : (e : ℕ → ℕ) → ((j : ℕ) → e j < 16) → (j n : ℕ) → ByteSum (pairs e j n)
small_pairs e h j zero = record { most = omega arith }
small_pairs e h j (suc n) = record {
  most =
      rw sum_cons (omega (arith, (small_pairs e h (suc (suc j)) n).most, h j, h (suc j)));
}

-- byte i holds entries 2 i and 2 i + 1
pub get_or_pairs : (e : ℕ → ℕ) (j n i : ℕ) → i < n → get_or (pairs e j n) i 0 ≡ e (j + 2 * i) + 16 * e (suc (j + 2 * i))
get_or_pairs e j zero i h = absurd (omega arith)
get_or_pairs e j (suc n) zero h = let p : j + 2 * 0 ≡ j = omega arith in rw p refl
get_or_pairs e j (suc n) (suc i) h =
    let p : suc (suc j) + 2 * i ≡ j + 2 * suc i = omega arith in
    get_or_pairs e (suc (suc j)) n i (omega (arith, h)) ∙ ap (λ (k : ℕ). e k + 16 * e (suc k)) p

-- entries two to a byte that are, byte by byte, those of a part are the part
pub pairs_part : (e : ℕ → ℕ) (l : List ℕ) (n j at : ℕ) → at + n ≤ length l
    → ((i : ℕ) → i < n → e (j + 2 * i) + 16 * e (suc (j + 2 * i)) ≡ get_or l (at + i) 0) → pairs e j n ≡ part at n l
pairs_part e l n j at h same =
    ext_get_or 0 (pairs e j n) (part at n l) (length_pairs e j n ∙ sym (part_length at n l h)) each
  where
    each : (i : ℕ) → i < length (pairs e j n) → get_or (pairs e j n) i 0 ≡ get_or (part at n l) i 0
    each i g =
        let b : i < n = omega (arith, g, length_pairs e j n) in
        get_or_pairs e j n i b ∙ same i b ∙ sym (part_get at n l i b)

-- the same entries make the same bytes
pub pairs_same : (f g : ℕ → ℕ) (j n : ℕ) → ((k : ℕ) → j ≤ k → k < j + 2 * n → f k ≡ g k) → pairs f j n ≡ pairs g j n
pairs_same f g j zero h = refl
pairs_same f g j (suc n) h =
    let p : f j ≡ g j = h j (omega arith) (omega arith) in
    let q : f (suc j) ≡ g (suc j) = h (suc j) (omega arith) (omega arith) in
    let r = pairs_same f g (suc (suc j)) n (λ k a b. h k (omega arith) (omega arith)) in
    ap (λ (x : ℕ). (x + 16 * f (suc j)) ∷ pairs f (suc (suc j)) n) p
    ∙ ap (λ (x : ℕ). (g j + 16 * x) ∷ pairs f (suc (suc j)) n) q
    ∙ ap (λ (l : List ℕ). (g j + 16 * g (suc j)) ∷ l) r

-- entries that are zero make zeros
pub pairs_zero : (f : ℕ → ℕ) (j n : ℕ) → ((k : ℕ) → j ≤ k → f k ≡ 0) → replicate n 0 ≡ pairs f j n
pairs_zero f j zero h = refl
pairs_zero f j (suc n) h =
    let p : 0 ≡ f j + 16 * f (suc j) = omega (arith, h j (omega arith), h (suc j) (omega arith)) in
    ap (λ (x : ℕ). (x) ∷ replicate n 0) p
    ∙ ap (λ (l : List ℕ). (f j + 16 * f (suc j)) ∷ l) (pairs_zero f (suc (suc j)) n (λ k a. h k (omega arith)))

-- byte i is stored anew, and the entries of the others stay
pub pairs_set : (f g : ℕ → ℕ) (j n i x : ℕ) → i < n → x ≡ g (j + 2 * i) + 16 * g (suc (j + 2 * i))
    → ((k : ℕ) → k ≢ j + 2 * i → k ≢ suc (j + 2 * i) → f k ≡ g k) → set (pairs f j n) i x ≡ pairs g j n
pairs_set f g j zero i x h e same = absurd (omega arith)
pairs_set f g j (suc n) zero x h e same =
    let p : j + 2 * 0 ≡ j = omega arith in
    let r = pairs_same f g (suc (suc j)) n (λ k a b. same k (λ z. absurd (omega (arith, z))) (λ z. absurd (omega (arith, z)))) in
    ap (λ (y : ℕ). (y) ∷ pairs f (suc (suc j)) n) (e ∙ ap (λ (k : ℕ). g k + 16 * g (suc k)) p)
    ∙ ap (λ (l : List ℕ). (g j + 16 * g (suc j)) ∷ l) r
pairs_set f g j (suc n) (suc i) x h e same =
    let p : j + 2 * suc i ≡ suc (suc j) + 2 * i = omega arith in
    let u : f j ≡ g j = same j (λ z. absurd (omega (arith, z))) (λ z. absurd (omega (arith, z))) in
    let w : f (suc j) ≡ g (suc j) = same (suc j) (λ z. absurd (omega (arith, z))) (λ z. absurd (omega (arith, z))) in
    let r =
    pairs_set f g (suc (suc j)) n i x (omega arith) (e ∙ ap (λ (k : ℕ). g k + 16 * g (suc k)) p)
    (λ k a b. same k (λ z. a (z ∙ p)) (λ z. b (z ∙ ap suc p))) in
    ap (λ (y : ℕ). (y + 16 * f (suc j)) ∷ set (pairs f (suc (suc j)) n) i x) u
    ∙ ap (λ (y : ℕ). (g j + 16 * y) ∷ set (pairs f (suc (suc j)) n) i x) w
    ∙ ap (λ (l : List ℕ). (g j + 16 * g (suc j)) ∷ l) r
