-- The other way round: a QPL1 file whose last letter becomes that of QPL2 is refused with 12 at block 0, for its sum is below the new check.
-- Assumes nothing.
use mathlib.Core.Path.{◌≡◌, sym, ap, ◌∙◌}
use mathlib.Core.Bool.{true}
use mathlib.Core.Option.{some}
use mathlib.Core.List.{List}
use Prim.Native.Nat.{ℕ, ◌+◌, ◌/◌, ◌≤◌, ◌<◌}
use native.Mathlib.Omega.{arith}
use lib.ListN.{length, get_or, set, length-set}
use Rattle.checks.proofs.CheckLaws.{first_found}
use Rattle.octets.specs.Bytes.{part, value, number_at}
use Rattle.octets.proofs.PartLaws.{part_length, part_get}
use Rattle.blocks.specs.Letters.{qpl1, qpl2, letters, version_of}
use Rattle.std.specs.List.{sum}
use Rattle.blocks.specs.BlockCheck.{tilt}
use Rattle.blocks.specs.Blocks.{length_out, block_broken, bad_block}
use Rattle.blocks.proofs.LetterLaws.{letters_version, qpl1_known, qpl2_known}
use Rattle.blocks.proofs.SumLaws.{check_tilt, check_sum}
use Rattle.blocks.proofs.BlockLaws.{other_check}
use Rattle.blocks.proofs.SoundLaws.{block_rules}
use Rattle.damage.specs.Damage.{SoundFile, changed, RefusedAt}
use Rattle.damage.proofs.SoundLaws.{enough, right_block, own_letters}
use Rattle.damage.proofs.TiltLaws.{sum_set, sum_below}
use Rattle.damage.proofs.PlaceLaws.{outside, inside}
use Rattle.damage.proofs.Refused.{refused_at}

module _ (file : List ℕ) (good : SoundFile qpl1 file) where
  -- the file with the letters QPL2
  abbrev file' : List ℕ
  file' = changed 0 7 50 file

  long_enough : 1024 ≤ length file
  long_enough = enough qpl1 file good

  long : length file' ≡ length file
  long = length-set file 7 50

  -- its letters were QPL1
  old_letters : letters qpl1 ≡ part 4 4 file
  old_letters = own_letters qpl1 file good qpl1_known

  -- and are QPL2
  new_version : version_of file' ≡ qpl2
  new_version =
      letters_version qpl2 qpl2_known file'
      (inside file 4 4 3 50 (omega (arith, long_enough)) (omega arith) ∙ ap (λ (l : List ℕ). set l 3 50) (sym old_letters))

  abbrev body : List ℕ
  body = part 0 508 file

  body_length : length body ≡ 508
  body_length = part_length 0 508 file (omega (arith, long_enough))

  -- the check that is stored is the sum, and of the new bytes the sum is one more
  stored : number_at 508 4 file' ≡ sum body
  unfolding number_at
  stored =
      ap value (outside file 508 4 7 50 (omega (arith, long_enough)) (λ i l e. absurd (omega (arith, e))))
      ∙ (block_rules qpl1 file 0 (right_block qpl1 file good 0 (omega (arith, long_enough)))).1
      ∙ sym (check_sum qpl1 body (λ e. absurd (omega (arith, e))))

  new_body : part 0 508 file' ≡ set body 7 50
  new_body = inside file 0 508 7 50 (omega (arith, long_enough)) (omega arith)

  last_letter : get_or body 7 0 ≡ 49
  last_letter =
      part_get 0 508 file 7 (omega arith) ∙ sym (part_get 4 4 file 3 (omega arith)) ∙ sym (ap (λ (l : List ℕ). get_or l 3 0) old_letters)

  -- the new check is above both
  above : sum body < 1 + tilt 508 (set body 7 50)
  above =
      omega (
        arith,
        sum_set body 7 50 (omega (arith, body_length)),
        last_letter,
        sum_below 508 (set body 7 50) (omega (arith, length-set body 7 50, body_length)),
      )

  broken : block_broken (version_of file') file' 0 ≡ true
  broken =
      other_check (version_of file') file' 0
      (λ e.
      let t : 1 + tilt 508 (part 0 508 file') ≡ sum body = check_tilt (version_of file') (part 0 508 file') new_version ∙ sym e ∙ stored in
      let u : tilt 508 (part 0 508 file') ≡ tilt 508 (set body 7 50) = ap (λ (l : List ℕ). tilt 508 l) new_body in
      absurd (omega (arith, t, u, above)))

  lowest : bad_block file' ≡ some 0
  unfolding bad_block
  lowest = first_found (block_broken (version_of file') file') 0 0 (length file' / 512) (λ i g. absurd (omega arith)) (omega (arith, long, long_enough)) broken

  -- A QPL1 file of which every block is right, its last letter changed to that of QPL2.
  pub renamed_letters : RefusedAt 0 file'
  renamed_letters = refused_at file' 0 (ap length_out long ∙ good.long) lowest
