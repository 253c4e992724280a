-- A block: 508 bytes and their check. Assumes nothing.
use mathlib.Core.Path.{◌≡◌, refl, sym, ap, ◌∙◌}
use mathlib.Core.Bool.{Bool, true, false, not, ◌||◌}
use mathlib.Core.List.{List, ◌++◌, append_assoc}
use Prim.Native.Nat.{ℕ, ◌+◌, ◌*◌}
use native.Mathlib.Omega.{arith}
use lib.Dec.{eqb}
use lib.ListN.{length, take, length-append}
use lib.Seq.{drop_at, take-append-le}
use borrow.Author.Tests.{eq-eqb, ne_eqb}
use Rattle.octets.specs.Bytes.{le, value, part, number_at}
use Rattle.blocks.specs.BlockCheck.{check_of}
use Rattle.blocks.specs.File.{sealed}
use Rattle.blocks.specs.Blocks.{block_broken}
use Rattle.octets.proofs.PartLaws.{part_middle}
use Rattle.octets.proofs.NumberLaws.{length_le, value_le}
use Rattle.blocks.proofs.SumLaws.{check_fits, ByteSum}

-- with the four bytes of its check a block is 512 bytes
pub length_sealed : (version : ℕ) (body : List ℕ) → length body ≡ 508 → length (sealed version body) ≡ 512
length_sealed version body h = omega (arith, length-append body (le 4 (check_of version body)), length_le 4 (check_of version body))

-- a block that starts with its number and ends with the check is not broken
pub block_sound : (version : ℕ) (front body rest : List ℕ) (k : ℕ) → length front ≡ 512 * k → length body ≡ 508 → ByteSum body
    → value (take 4 body) ≡ k → block_broken version (front ++ (sealed version body ++ rest)) k ≡ false
unfolding block_broken number_at
block_sound version front body rest k at long few number =
    rw (first, second, third) (rw (eq-eqb k k refl, eq-eqb (check_of version body) (check_of version body) refl) refl)
  where
    tail : List ℕ
    tail = le 4 (check_of version body)

    first : value (part (512 * k) 4 (front ++ (sealed version body ++ rest))) ≡ k
    first =
        ap (λ (l : List ℕ). value (take 4 l)) (drop_at front (sealed version body ++ rest) (512 * k) at)
        ∙ ap value (take-append-le 4 (sealed version body) rest (omega (arith, length_sealed version body long)))
        ∙ ap value (take-append-le 4 body tail (omega arith)) ∙ number

    second : value (part (512 * k + 508) 4 (front ++ (sealed version body ++ rest))) ≡ check_of version body
    second =
        ap (λ (l : List ℕ). value (part (512 * k + 508) 4 (front ++ l))) (append_assoc body tail rest)
        ∙ ap (λ (l : List ℕ). value (part (512 * k + 508) 4 l)) (sym (append_assoc front body (tail ++ rest)))
        ∙ ap value
        (part_middle (front ++ body) tail rest (512 * k + 508) 4 (omega (arith, length-append front body)) (length_le 4 (check_of version body)))
        ∙ value_le 4 (check_of version body) (check_fits version body long few)

    third : part (512 * k) 508 (front ++ (sealed version body ++ rest)) ≡ body
    third =
        ap (λ (l : List ℕ). part (512 * k) 508 (front ++ l)) (append_assoc body tail rest)
        ∙ part_middle front body (tail ++ rest) (512 * k) 508 at long

-- a block is broken whose check is another than the one that is stored
pub other_check : (version : ℕ) (file : List ℕ) (k : ℕ) → (number_at (512 * k + 508) 4 file ≡ check_of version (part (512 * k) 508 file) → ⊥)
    → block_broken version file k ≡ true
unfolding block_broken
other_check version file k ne = rw (ne_eqb _ _ ne) (of (not (eqb (number_at (512 * k) 4 file) k)))
  where
    of : (t : Bool) → (t || true) ≡ true
    of true = refl
    of false = refl

-- the same number, check and bytes are broken alike
pub same_block : (version : ℕ) (file file' : List ℕ) (k : ℕ) → part (512 * k) 4 file' ≡ part (512 * k) 4 file
    → part (512 * k + 508) 4 file' ≡ part (512 * k + 508) 4 file → part (512 * k) 508 file' ≡ part (512 * k) 508 file
    → block_broken version file' k ≡ block_broken version file k
unfolding block_broken number_at
same_block version file file' k p q r =
    ap (λ (l : List ℕ). not (eqb (value l) k) || not (eqb (value (part (512 * k + 508) 4 file')) (check_of version (part (512 * k) 508 file')))) p
    ∙ ap (λ (l : List ℕ). not (eqb (value (part (512 * k) 4 file)) k) || not (eqb (value l) (check_of version (part (512 * k) 508 file')))) q
    ∙ ap (λ (l : List ℕ). not (eqb (value (part (512 * k) 4 file)) k) || not (eqb (value (part (512 * k + 508) 4 file)) (check_of version l))) r
