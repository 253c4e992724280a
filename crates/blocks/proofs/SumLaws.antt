-- Sums of bytes. Assumes nothing.
use mathlib.Core.Path.{refl, ◌≡◌, ap}
use mathlib.Core.List.{List, [], ◌∷◌, ◌++◌}
use mathlib.Core.Bool.{Bool, true, false, cond}
use Prim.Native.Nat.{ℕ, zero, suc, ◌+◌, ◌*◌, ◌-◌, ◌/◌, ◌%◌, ◌≤◌, ◌<◌}
use native.Mathlib.Nat.{mul-le-mul_right}
use native.Mathlib.Omega.{arith}
use native.Mathlib.Numerals.{add-one}
use lib.ListN.{length, get_or, take, replicate, length-append}
use lib.Seq.{take-suc, length-take-le}
use Rattle.std.specs.List.{sum}
use Rattle.std.proofs.lemmas.List.Sums.{sum_by-cons, sum_by-append, sum_by_push}
use lib.Dec.{eqb}
use borrow.Author.Tests.{eq-eqb, ne_eqb}
use Rattle.octets.specs.Bytes.{le}
use Rattle.blocks.specs.Letters.{qpl2}
use Rattle.blocks.specs.BlockCheck.{tilt, check_of}
use Rattle.blocks.specs.Sizes.{body_size}

-- the sum of a byte and more, of two lists, and of one byte more behind
abbrev pub sum_cons : (b : ℕ) (l : List ℕ) → sum (b ∷ l) ≡ b + sum l
sum_cons b l = sum_by-cons (λ x. x) b l

-- the tilt of a byte and more
pub tilt_cons : (n b : ℕ) (l : List ℕ) → tilt (suc n) (b ∷ l) ≡ suc n * b + tilt n l
tilt_cons n b l = let e : suc n - 1 ≡ n = omega arith in ap (λ (m : ℕ). suc n * b + tilt m l) e

-- the tilt of one byte more behind: every byte counts once more than before
tilt_snoc : (l : List ℕ) (x : ℕ) → tilt (suc (length l)) (l ++ (x ∷ [])) ≡ tilt (length l) l + (sum l + x)
tilt_snoc [] x = omega arith
tilt_snoc (b ∷ l) x =
    omega (arith, tilt_snoc l x, tilt_cons (suc (length l)) b (l ++ (x ∷ [])), tilt_cons (length l) b l, sum_cons b l)

-- the tilt of the first bytes and one more: that of the first, and the sum of all of them
pub tilt_more : (s : List ℕ) (i : ℕ) → i < length s → tilt (i + 1) (take (i + 1) s) ≡ tilt i (take i s) + sum (take (i + 1) s)
tilt_more s i h =
    let l = take i s in
    let x = get_or s i 0 in
    let n : length l ≡ i = length-take-le i s (omega arith) in
    let e : take (i + 1) s ≡ l ++ (x ∷ []) = rw add-one (take-suc s i 0 h) in
    let m : tilt (suc (length l)) (l ++ (x ∷ [])) ≡ tilt (i + 1) (l ++ (x ∷ [])) = rw (n, add-one) refl in
    let k : tilt (length l) l ≡ tilt i l = ap (λ (k : ℕ). tilt k l) n in
    rw e (omega (arith, tilt_snoc l x, sum_by_push (λ x. x) l x, m, k))

-- it is at most n times the sum
tilt_most : (n : ℕ) (l : List ℕ) → tilt n l ≤ n * sum l
tilt_most n [] = omega arith
tilt_most n (b ∷ l) =
    let less : n - 1 ≤ n = omega arith in
    rw sum_cons (omega (arith, tilt_most (n - 1) l, mul-le-mul_right (sum l) less))

-- a list with no greater sum than so many bytes can have
pub record ByteSum (l : List ℕ) : Type 0 where
  pub most : sum l ≤ 255 * length l

infixl 40 ◌joins◌
-- two such lists make one
pub ◌joins◌ : {a b : List ℕ} → ByteSum a → ByteSum b → ByteSum (a ++ b)
◌joins◌ {a} {b} h g = record { most = omega (arith, h.most, g.most, sum_by-append (λ x. x) a b, length-append a b) }

-- the bytes of a number are bytes
pub small_le : (k x : ℕ) → ByteSum (le k x)
unfolding le
small_le zero x = record { most = omega arith }
small_le (suc k) x = record { most = omega (arith, (small_le k (x / 256)).most, sum_cons (x % 256) (le k (x / 256))) }

-- and so are zeros
pub small_zeros : (k : ℕ) → ByteSum (replicate k 0)
small_zeros zero = record { most = omega arith }
small_zeros (suc k) = record { most = omega (arith, (small_zeros k).most, sum_cons 0 (replicate k 0)) }

-- the check of a block is one more than its tilt, or its sum
pub check_tilt : (version : ℕ) (body : List ℕ) → version ≡ qpl2 → 1 + tilt body_size body ≡ check_of version body
unfolding check_of
check_tilt version body e = rw (eq-eqb version qpl2 e) refl

pub check_sum : (version : ℕ) (body : List ℕ) → (version ≡ qpl2 → ⊥) → sum body ≡ check_of version body
unfolding check_of
check_sum version body ne = rw (ne_eqb version qpl2 ne) refl

-- and four bytes hold it
pub check_fits : (version : ℕ) (body : List ℕ) → length body ≡ body_size → ByteSum body → check_of version body < 4294967296
unfolding check_of
check_fits version body h few = of (eqb version qpl2)
  where
    of : (t : Bool) → cond t (1 + tilt body_size body) (sum body) < 4294967296
    of true = omega (arith, tilt_most 508 body, few.most, h)
    of false = omega (arith, few.most, h)
