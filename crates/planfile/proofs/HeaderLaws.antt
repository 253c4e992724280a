-- Block 0 as it is read: its faults and its fields are its bytes. Assumes nothing.
use mathlib.Core.Path.{◌≡◌, refl, sym, ap, ◌∙◌}
use mathlib.Core.Bool.{Bool, false, cond}
use mathlib.Core.List.{List}
use Prim.Native.Nat.{ℕ, ◌+◌, ◌≤◌}
use native.Mathlib.Omega.{arith}
use lib.Dec.{eqb}
use lib.ListN.{length, take, drop, replicate, length-replicate}
use lib.Seq.{take-take}
use borrow.Author.Tests.{ne_eqb}
use Rattle.laws.proofs.Tests.{neither}
use Rattle.octets.specs.Bytes.{value, part, number_at}
use Rattle.blocks.specs.Differ.{differ}
use Rattle.blocks.specs.Letters.{no_version, qpl2, version_of}
use Rattle.blocks.specs.File.{InVersion, header, other_length}
use Rattle.blocks.specs.Blocks.{block_broken}
use Rattle.planfile.specs.Reading.{fields_of, faults_of}
use Rattle.octets.proofs.PartLaws.{part_length, part_join}
use Rattle.octets.proofs.NumberLaws.{Bytes, number_back}
use Rattle.rules.proofs.FieldLaws.{RulesHold}
use Rattle.blocks.proofs.SoundLaws.{number_part}
use Rattle.blocks.proofs.DifferLaws.{no_difference}
use Rattle.blocks.proofs.LetterLaws.{version_letters}

-- answers that are the faults
pub told_faults : (file : List ℕ) (N version : ℕ) {a b c d : Bool} → N ≡ number_at 8 2 file → version ≡ version_of file
    → a ≡ other_length (length file) N → b ≡ cond (eqb version qpl2) false (differ (replicate 3 0) (part 13 3 file))
    → c ≡ differ (replicate 2 0) (part 14 2 file) → d ≡ differ (replicate 460 0) (part 48 460 file)
    → record { letters = eqb version no_version; length = a; run_13 = b; run_14 = c; run_48 = d } ≡ faults_of file
unfolding faults_of
told_faults file N version n v p q r s = λ i. record {
  letters = eqb (v i) no_version;
  length = (p ∙ ap (other_length (length file)) n) i;
  run_13 = (q ∙ ap (λ (w : ℕ). cond (eqb w qpl2) false (differ (replicate 3 0) (part 13 3 file))) v) i;
  run_14 = r i;
  run_48 = s i;
}

module _ (file : List ℕ) where
  -- a run of k bytes that does not differ is the part there
  run_part : (s : List ℕ) (at k : ℕ) → length s ≡ k → at + k ≤ length file → differ s (part at k file) ≡ false → s ≡ part at k file
  run_part s at k e h d = no_difference s (part at k file) (part_length at k file h ∙ sym e) d

  -- a file of QPL1 that keeps the rules has no mark: its bytes 13 to 15 are zero
  pub held_part : {lawless : Bool} → 512 ≤ length file → RulesHold lawless (faults_of file) (fields_of file)
      → InVersion (version_of file) (fields_of file)
  unfolding fields_of faults_of number_at
  held_part h kept e =
      let run : Bool = differ (replicate 3 0) (part 13 3 file) in
      let old : eqb (version_of file) qpl2 ≡ false = ne_eqb (version_of file) qpl2 (λ g. absurd (omega (arith, e, g))) in
      let none : run ≡ false =
      sym (ap (λ (t : Bool). cond t false run) old) ∙ (neither (cond (eqb (version_of file) qpl2) false run) _ kept.weighted).0 in
      ap value (sym (take-take 1 3 (drop 13 file) (omega arith)))
      ∙ ap (λ (l : List ℕ). value (take 1 l)) (sym (run_part (replicate 3 0) 13 3 refl (omega arith) none))

module _ (file : List ℕ) (bytes : Bytes file) where
  -- the header of the fields of block 0, in the version that its letters say, is its first 508 bytes
  pub header_part : {lawless : Bool} (version : ℕ) → 512 ≤ length file → block_broken version file 0 ≡ false
      → RulesHold lawless (faults_of file) (fields_of file) → header (version_of file) (fields_of file) ≡ part 0 508 file
  unfolding header fields_of faults_of
  header_part version h broken kept =
      part_join file 0 48 460 (
      part_join file 0 44 4 (
      part_join file 0 40 4 (
      part_join file 0 36 4 (
      part_join file 0 32 4 (
      part_join file 0 28 4 (
      part_join file 0 24 4 (
      part_join file 0 16 8 (
      part_join file 0 14 2 (
      part_join file 0 13 1 (
      part_join file 0 12 1 (
      part_join file 0 11 1 (
      part_join file 0 10 1 (
      part_join file 0 8 2 (
      part_join file 0 4 4 (number_part version file bytes 0 h broken)
      (version_letters file (omega arith) kept.letters))
      (number_back 8 2 file bytes (omega arith)))
      (number_back 10 1 file bytes (omega arith)))
      (number_back 11 1 file bytes (omega arith)))
      (number_back 12 1 file bytes (omega arith)))
      (number_back 13 1 file bytes (omega arith)))
      (run_part file (replicate 2 0) 14 2 refl (omega arith) kept.run_14))
      (number_back 16 8 file bytes (omega arith)))
      (number_back 24 4 file bytes (omega arith)))
      (number_back 28 4 file bytes (omega arith)))
      (number_back 32 4 file bytes (omega arith)))
      (number_back 36 4 file bytes (omega arith)))
      (number_back 40 4 file bytes (omega arith)))
      (number_back 44 4 file bytes (omega arith)))
      (run_part file (replicate 460 0) 48 460 (length-replicate {A = ℕ} 460 0) (omega arith) kept.run_48)
