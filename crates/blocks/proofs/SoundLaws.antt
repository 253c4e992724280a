-- A block with the right number and check is the one of what it holds. Assumes nothing.
use mathlib.Core.Path.{◌≡◌, refl, sym, ap, ◌∙◌}
use mathlib.Core.Bool.{false, not}
use mathlib.Core.List.{List}
use Prim.Native.Nat.{ℕ, zero, suc, ◌+◌, ◌*◌, ◌/◌, ◌%◌, ◌≤◌, ◌<◌}
use native.Mathlib.Omega.{arith}
use lib.Dec.{eqb}
use lib.ListN.{length, get_or}
use borrow.Author.Tests.{eqb-true, not-false}
use Rattle.laws.proofs.Tests.{neither}
use Rattle.octets.specs.Bytes.{le, part, number_at}
use Rattle.blocks.specs.BlockCheck.{check_of}
use Rattle.blocks.specs.File.{sealed, data_block, data_from, pairs, entry_at}
use Rattle.blocks.specs.Blocks.{block_broken}
use Rattle.octets.proofs.PartLaws.{part_join}
use Rattle.octets.proofs.NumberLaws.{Bytes, number_back}
use Rattle.octets.proofs.HalfLaws.{halves}
use Rattle.blocks.proofs.PairLaws.{pairs_part}

-- a block that is not broken has its number and the check of its bytes
pub block_rules : (version : ℕ) (file : List ℕ) (k : ℕ) → block_broken version file k ≡ false
    → (number_at (512 * k) 4 file ≡ k) × (number_at (512 * k + 508) 4 file ≡ check_of version (part (512 * k) 508 file))
unfolding block_broken
block_rules version file k b =
    let n = neither (not (eqb (number_at (512 * k) 4 file) k)) _ b in
    (eqb-true _ _ (not-false _ n.0), eqb-true _ _ (not-false _ n.1))

module _ (version : ℕ) (file : List ℕ) (bytes : Bytes file) where
  -- its number is its first four bytes
  pub number_part : (k : ℕ) → 512 * k + 512 ≤ length file → block_broken version file k ≡ false → le 4 k ≡ part (512 * k) 4 file
  number_part k h b = ap (le 4) (sym (block_rules version file k b).0) ∙ number_back (512 * k) 4 file bytes (omega arith)

  -- and it is its first 508 bytes with their check
  pub sealed_part : (k : ℕ) (body : List ℕ) → 512 * k + 512 ≤ length file → block_broken version file k ≡ false → body ≡ part (512 * k) 508 file
      → sealed version body ≡ part (512 * k) 512 file
  sealed_part k body h b e =
      part_join file (512 * k) 508 4 e
      (ap (λ (l : List ℕ). le 4 (check_of version l)) e ∙ ap (le 4) (sym (block_rules version file k b).1)
      ∙ number_back (512 * k + 508) 4 file bytes (omega arith))

  -- the two entries of a byte are the byte
  entry_pair : (b i : ℕ) → i < 504
      → entry_at file (1008 * b + 2 * i) + 16 * entry_at file (suc (1008 * b + 2 * i)) ≡ get_or file (512 * suc b + 4 + i) 0
  entry_pair b i h =
      let at₀ : 512 * suc ((1008 * b + 2 * i) / 1008) + 4 + (1008 * b + 2 * i) % 1008 / 2 ≡ 512 * suc b + 4 + i = omega arith in
      let at₁ : 512 * suc (suc (1008 * b + 2 * i) / 1008) + 4 + suc (1008 * b + 2 * i) % 1008 / 2 ≡ 512 * suc b + 4 + i = omega arith in
      let low : (1008 * b + 2 * i) % 2 ≡ 0 = omega arith in
      let high : suc (1008 * b + 2 * i) % 2 ≡ 1 = omega arith in
      rw (at₀, at₁, low, high) (halves (get_or file (512 * suc b + 4 + i) 0) (bytes (512 * suc b + 4 + i)))

  -- the entries of a data block, two to a byte, are its bytes 4 to 507
  data_pairs : (e : ℕ → ℕ) (b : ℕ) → 512 * suc b + 512 ≤ length file → ((j : ℕ) → j < 1008 * suc b → e j ≡ entry_at file j)
      → pairs e (1008 * b) 504 ≡ part (512 * suc b + 4) 504 file
  data_pairs e b h same =
      pairs_part e file 504 (1008 * b) (512 * suc b + 4) (omega arith) (λ i g.
      let p : e (1008 * b + 2 * i) ≡ entry_at file (1008 * b + 2 * i) = same _ (omega arith) in
      let q : e (suc (1008 * b + 2 * i)) ≡ entry_at file (suc (1008 * b + 2 * i)) = same _ (omega arith) in
      ap (λ (x : ℕ). x + 16 * e (suc (1008 * b + 2 * i))) p
      ∙ ap (λ (x : ℕ). entry_at file (1008 * b + 2 * i) + 16 * x) q
      ∙ entry_pair b i g)

  -- so data block b is block b + 1 of the file
  data_part : (e : ℕ → ℕ) (b : ℕ) → 512 * suc b + 512 ≤ length file → block_broken version file (suc b) ≡ false
      → ((j : ℕ) → j < 1008 * suc b → e j ≡ entry_at file j) → sealed version (data_block e b) ≡ part (512 * suc b) 512 file
  unfolding data_block
  data_part e b h broken same =
      sealed_part (suc b) (data_block e b) h broken
      (part_join file (512 * suc b) 4 504 (number_part (suc b) h broken) (data_pairs e b h same))

  -- n data blocks from b on are as many blocks of the file
  pub blocks_part : (e : ℕ → ℕ) (n b : ℕ) → 512 * suc b + 512 * n ≤ length file
      → ((k : ℕ) → k < suc b + n → block_broken version file k ≡ false) → ((j : ℕ) → j < 1008 * (b + n) → e j ≡ entry_at file j)
      → data_from version e b n ≡ part (512 * suc b) (512 * n) file
  blocks_part e zero b h sound same = refl
  blocks_part e (suc n) b h sound same =
      let one = data_part e b (omega arith) (sound (suc b) (omega arith)) (λ j g. same j (omega arith)) in
      let rest = blocks_part e n (suc b) (omega arith) (λ k g. sound k (omega arith)) (λ j g. same j (omega arith)) in
      let next : 512 * suc (suc b) ≡ 512 * suc b + 512 = omega arith in
      let more : 512 * suc n ≡ 512 + 512 * n = omega arith in
      part_join file (512 * suc b) 512 (512 * n) one (rest ∙ ap (λ (at : ℕ). part at (512 * n) file) next)
      ∙ ap (λ (k : ℕ). part (512 * suc b) k file) (sym more)
