-- The stages of a call, and its answer. Assumes nothing.
use mathlib.Core.Path.{◌≡◌, refl}
use mathlib.Core.Bool.{Bool, true, false, not, ◌||◌}
use mathlib.Core.Option.{none}
use mathlib.Core.List.{List}
use Prim.Native.Nat.{ℕ, ◌+◌, ◌*◌, ◌/◌, ◌≤◌, ◌<◌}
use native.Mathlib.Omega.{arith}
use lib.Dec.{eqb}
use lib.ListN.{length}
use borrow.Author.Tests.{eqb-true}
use Rattle.checks.specs.Planning.{scans_out}
use Rattle.laws.proofs.Tests.{neither, never}
use Rattle.tables.specs.Law.{law_out}
use Rattle.octets.specs.Bytes.{number_at}
use Rattle.blocks.specs.File.{file_length, other_length}
use Rattle.blocks.specs.Blocks.{length_out}
use Rattle.planfile.specs.Reading.{fields_of, faults_of, read_refusal}
use Rattle.rules.proofs.FieldLaws.{limited}
use Rattle.blocks.proofs.LengthLaws.{right_length, few_blocks, within}
use Rattle.planfile.proofs.Accepted.{passed}

-- the two lengths
pub two_lengths : (n : ℕ) → length_out n ≡ false → (1024 ≤ n) × (n ≤ 1536)
two_lengths n e = at (eqb n 1024) (eqb n 1536) refl refl e
  where
    at : (a b : Bool) → eqb n 1024 ≡ a → eqb n 1536 ≡ b → not (a || b) ≡ false → (1024 ≤ n) × (n ≤ 1536)
    at true b p q g = let h = eqb-true n 1024 p in (omega (arith, h), omega (arith, h))
    at false true p q g = let h = eqb-true n 1536 q in (omega (arith, h), omega (arith, h))
    at false false p q g = never cc

-- what a file that is not refused has: block 0, no more settings than are lent, and every entry of the plan
pub record Inside (file : List ℕ) (room : ℕ) : Type 0 where
  pub one_block : 512 ≤ length file
  pub enough : (fields_of file).scans ≤ room
  pub few : (fields_of file).scans ≤ 2016
  pub there : (j : ℕ) → j < (fields_of file).scans → 512 * (j / 1008 + 2) ≤ length file

pub inside : (file : List ℕ) (room : ℕ) → read_refusal file room ≡ none → Inside file room
unfolding faults_of fields_of number_at
inside file room e =
    let p = passed file room e in
    let N = (fields_of file).scans in
    let m : N ≤ 1024 = (limited (law_out (fields_of file).law) (faults_of file) (fields_of file) p.rules).scans in
    let l : length file ≡ file_length N = right_length (length file) N (neither (scans_out N) (other_length (length file) N) p.rules.scans).1 in
    let w = within N m in
    record {
      one_block = omega (arith, l);
      enough = p.enough;
      few = omega (arith, m);
      there = λ j h. omega (arith, l, w, few_blocks N, h);
    }
