-- Numbers, low byte first: bytes and numbers both ways. Assumes nothing.
use Rattle.std.proofs.Common.{◌≡◌, refl, sym, ap, ◌∙◌, List, [], ◌∷◌, ◌++◌, ℕ, zero, suc, ◌+◌, ◌-◌, ◌*◌, ◌/◌, ◌%◌, ◌^◌, ◌≤◌, ◌<◌, arith, length, get_or, take, drop, replicate, slice_index, take-suc, take_all, length-take-le, w64}
use Rattle.std.specs.Int.{byte_at, byte_worth, bytes_low_first, sum_through, to_le_bytes, from_le_bytes}
use Rattle.std.proofs.lemmas.List.{drop-replicate, length-replicate, length-append}
use native.Mathlib.Nat.{pow-suc, pow-zero, mul_assoc, mul_comm, div-div-eq-div-mul}
use lib.Seq.{get_or-drop}
use Rattle.octets.specs.Bytes.{le, value, part, number_at}
use Rattle.octets.proofs.PartLaws.{part_length}

-- the k bytes of a number are k
pub length_le : (k x : ℕ) → length (le k x) ≡ k
unfolding le
length_le zero x = refl
length_le (suc k) x = ap suc (length_le k (x / 256))

-- the lowest of some bytes of a number
take_le : (n m x : ℕ) → n ≤ m → take n (le m x) ≡ le n x
unfolding le
take_le zero m x h = refl
take_le (suc n) zero x h = absurd (omega arith)
take_le (suc n) (suc m) x h = ap (λ (l : List ℕ). x % 256 ∷ l) (take_le n m (x / 256) (omega arith))

-- the library's bytes of a number, from byte i on
le_from : (i k x : ℕ) → bytes_low_first i k x ≡ le k (x / 256 ^ i)
unfolding le
le_from i zero x = refl
le_from i (suc k) x =
    let d : x / 256 ^ i / 256 ≡ x / 256 ^ suc i = div-div-eq-div-mul x (256 ^ i) 256 ∙ ap (λ (n : ℕ). x / n) (sym (pow-suc 256 i)) in
    rw (d, le_from (suc i) k x, low i) refl
  where
    low : (i : ℕ) → byte_at i x ≡ x / 256 ^ i % 256
    low zero = let d : x / 256 ^ 0 ≡ x = rw (pow-zero 256) (omega arith) in rw d refl
    low (suc i) = refl

-- the n low bytes of what the library writes
pub le_written : (n x : ℕ) → n ≤ 8 → take n (to_le_bytes w64 x) ≡ le n x
le_written n x h =
    let d : x / 256 ^ 0 ≡ x = rw (pow-zero 256) (omega arith) in
    ap (take n) (le_from 0 8 x ∙ ap (le 8) d) ∙ take_le n 8 x h

-- the k bytes of a number that k bytes can hold say it
pub value_le : (k x : ℕ) → x < 256 ^ k → value (le k x) ≡ x
unfolding le
value_le zero x h = let e : 256 ^ 0 ≡ 1 = pow-zero 256 in omega (arith, e)
value_le (suc k) x h =
    let p : 256 ^ suc k ≡ 256 ^ k * 256 = pow-suc 256 k in
    let l : x / 256 < 256 ^ k = omega (arith, p, h) in
    rw (value_le k (x / 256) l) (omega arith)

-- every element is a byte
abbrev pub Bytes : List ℕ → Type 0
Bytes l = (i : ℕ) → get_or l i 0 < 256

-- the elements that are taken from bytes are bytes
bytes_take : (k : ℕ) (l : List ℕ) → Bytes l → Bytes (take k l)
bytes_take zero l h i = omega arith
bytes_take (suc k) [] h i = omega arith
bytes_take (suc k) (b ∷ l) h zero = h 0
bytes_take (suc k) (b ∷ l) h (suc i) = bytes_take k l (λ i. h (suc i)) i

-- and so are those that are left of them
bytes_drop : (n : ℕ) (l : List ℕ) → Bytes l → Bytes (drop n l)
bytes_drop n l h i = rw (get_or-drop n l i 0) (h (n + i))

-- so many bytes are those of their number
bytes_back : (l : List ℕ) → Bytes l → le (length l) (value l) ≡ l
unfolding le
bytes_back [] h = refl
bytes_back (b ∷ l) h =
    let low : (b + 256 * value l) % 256 ≡ b = omega (arith, h 0) in
    let high : (b + 256 * value l) / 256 ≡ value l = omega (arith, h 0) in
    rw (low, high) (ap (λ (r : List ℕ). b ∷ r) (bytes_back l (λ i. h (suc i))))

-- the first k of some bytes say a number that k bytes can hold
value_small : (k : ℕ) (l : List ℕ) → Bytes l → value (take k l) < 256 ^ k
value_small zero l h = let e : 256 ^ 0 ≡ 1 = pow-zero 256 in omega (arith, e)
value_small (suc k) [] h =
    let p : 256 ^ suc k ≡ 256 ^ k * 256 = pow-suc 256 k in
    omega (arith, p, value_small k [] h)
value_small (suc k) (b ∷ l) h =
    let p : 256 ^ suc k ≡ 256 ^ k * 256 = pow-suc 256 k in
    omega (arith, p, h 0, value_small k l (λ i. h (suc i)))

-- the number of two lists, the lower first
value_append : (l m : List ℕ) (w : ℕ) → 256 ^ length l ≡ w → value (l ++ m) ≡ value l + w * value m
value_append [] m w e = let h : w ≡ 1 = sym e in rw h (omega arith)
value_append (b ∷ l) m w e =
    let t = value_append l m (256 ^ length l) refl in
    let h : w ≡ 256 * 256 ^ length l = sym e ∙ pow-suc 256 (length l) ∙ mul_comm (256 ^ length l) 256 in
    rw (t, h, mul_assoc 256 (256 ^ length l) (value m)) (omega arith)

-- what the library sums of the first bytes of some
worth : (k : ℕ) (l : List ℕ) → k < length l → sum_through (λ i. byte_worth i (slice_index l i)) k ≡ value (take (suc k) l)
worth zero l h = rw (take-suc l 0 0 (omega arith)) (omega arith)
worth (suc k) l h =
    let e : length (take (suc k) l) ≡ suc k = length-take-le (suc k) l (omega arith) in
    let v = value_append (take (suc k) l) (get_or l (suc k) 0 ∷ []) (256 ^ suc k) (ap (λ (n : ℕ). 256 ^ n) e) in
    rw (take-suc l (suc k) 0 h, v, worth k l (omega arith)) (omega arith)

-- bytes with zeros behind them hold the same number
value_zeros : (l : List ℕ) (k : ℕ) → value (l ++ replicate k 0) ≡ value l
value_zeros l k = value_append l (replicate k 0) (256 ^ length l) refl ∙ rw (none k) (omega arith)
  where
    none : (k : ℕ) → value (replicate k 0) ≡ 0
    none zero = refl
    none (suc k) = omega (arith, none k)

-- the number that the library reads from some bytes with zeros behind them up to eight
pub value_read : (l : List ℕ) (n : ℕ) → length l ≡ n → n ≤ 8 → from_le_bytes w64 (l ++ drop n (replicate 8 0)) ≡ value l
value_read l n e h =
    let z : drop n (replicate {A = ℕ} 8 0) ≡ replicate (8 - n) 0 = drop-replicate n 8 0 in
    let long : length (l ++ replicate {A = ℕ} (8 - n) 0) ≡ 8 = omega (arith, length-append l (replicate {A = ℕ} (8 - n) 0), length-replicate {A = ℕ} (8 - n) 0) in
    let f : (r : List ℕ) → length r ≡ 8 → from_le_bytes w64 r ≡ value r =
    λ r k. worth 7 r (omega (arith, k)) ∙ ap value (take_all 8 r (omega (arith, k))) in
    ap (λ (r : List ℕ). from_le_bytes w64 (l ++ r)) z ∙ f (l ++ replicate (8 - n) 0) long ∙ value_zeros l (8 - n)

-- the number at a place of bytes, written as so many bytes, is the part there
pub number_back : (at k : ℕ) (l : List ℕ) → Bytes l → at + k ≤ length l → le k (number_at at k l) ≡ part at k l
unfolding number_at
number_back at k l b h =
    ap (λ (n : ℕ). le n (value (part at k l))) (sym (part_length at k l h))
    ∙ bytes_back (part at k l) (bytes_take k (drop at l) (bytes_drop at l b))

-- the number at a place of bytes is one that so many bytes can hold
pub number_small : (at k : ℕ) (l : List ℕ) → Bytes l → number_at at k l < 256 ^ k
unfolding number_at
number_small at k l b = value_small k (drop at l) (bytes_drop at l b)
