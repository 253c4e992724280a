-- What makes a damaged file one that is refused at a block. Assumes nothing.
use mathlib.Core.Path.{◌≡◌, refl, sym, ap, ◌∙◌}
use mathlib.Core.Logic.{◌≢◌}
use mathlib.Core.Bool.{Bool, true, false, cond}
use mathlib.Core.Option.{Option, some}
use mathlib.Core.List.{List}
use Prim.Native.Nat.{ℕ, ◌+◌, ◌*◌, ◌/◌, ◌≤◌, ◌<◌}
use native.Mathlib.Nat.{zero-add}
use native.Mathlib.Decide.{ℕ_discrete}
use native.Mathlib.Omega.{arith}
use lib.Dec.{eqb}
use lib.ListN.{length, get_or}
use borrow.Author.Tests.{eqb-false}
use Rattle.tables.specs.declared.refusal.Refusal.{Refusal}
use Rattle.tables.specs.declared.refusal.Refusal.TheVariants as refusal
use Rattle.checks.specs.Checks.{or_answer}
use Rattle.checks.proofs.CheckLaws.{first_found}
use Rattle.octets.specs.Bytes.{part, value, number_at}
use Rattle.blocks.specs.Letters.{qpl2, version_of}
use Rattle.std.specs.List.{sum}
use Rattle.blocks.specs.BlockCheck.{tilt, check_of}
use Rattle.blocks.specs.Blocks.{length_out, block_broken, bad_block}
use Rattle.blocks.proofs.LetterLaws.{same_version}
use Rattle.blocks.proofs.SumLaws.{check_tilt}
use Rattle.blocks.proofs.BlockLaws.{other_check, same_block}
use Rattle.blocks.proofs.SoundLaws.{block_rules}
use Rattle.planfile.specs.Reading.{read_refusal_under, read_refusal, read_of, settings_after, plan_read, read_values}
use Rattle.damage.specs.Damage.{Qpl2File, RefusedAt}
use Rattle.damage.proofs.SoundLaws.{right_block}
use Rattle.damage.proofs.PlaceLaws.{same_part}

-- a file of either length whose lowest broken block is b is refused with 12 at b, whatever is lent
module _ (file : List ℕ) (b : ℕ) (long : length_out (length file) ≡ false) (lowest : bad_block file ≡ some b) where
  refusal_is : (room : ℕ) → read_refusal file room ≡ some (refusal.Block b)
  unfolding read_refusal_under
  refusal_is room = rw (long, lowest) refl

  pub refused_at : RefusedAt b file
  unfolding read_of
  refused_at = record {
    lowest = lowest;
    answer = λ room. ap (λ (o : Option Refusal). or_answer o (read_values (plan_read file))) (refusal_is room);
    settings = λ lent. ap (λ (o : Option Refusal). settings_after o file lent) (refusal_is (length lent));
  }

-- What was done to block b of a file: it is as long as it was, all before the block is as it was, and so is the stored check; the tilt is
-- another; and where the block is that of the letters, its sum is no more than the tilt was.
pub record Damaged (file : List ℕ) (b : ℕ) (file' : List ℕ) : Type 0 where
  pub long : length file' ≡ length file
  pub before : (i : ℕ) → i < 512 * b → get_or file' i 0 ≡ get_or file i 0
  pub stored : part (512 * b + 508) 4 file' ≡ part (512 * b + 508) 4 file
  pub tilted : tilt 508 (part (512 * b) 508 file') ≢ tilt 508 (part (512 * b) 508 file)
  pub light : b ≡ 0 → sum (part (512 * b) 508 file') ≤ tilt 508 (part (512 * b) 508 file)

-- A check that is not the stored one. Where the letters say QPL2 still, it is one more than another tilt; where they do not, the old sum
-- judges, and it is below what is stored.
unequal_check : (version : ℕ) (body body' : List ℕ) → tilt 508 body' ≢ tilt 508 body → (version ≢ qpl2 → sum body' ≤ tilt 508 body)
    → 1 + tilt 508 body ≢ check_of version body'
unfolding check_of
unequal_check version body body' tilted light = of (eqb version qpl2) (eqb-false version qpl2)
  where
    of : (t : Bool) → (t ≡ false → version ≢ qpl2) → 1 + tilt 508 body ≢ cond t (1 + tilt 508 body') (sum body')
    of true q e = tilted (omega (arith, e))
    of false q e = absurd (omega (arith, e, light (q refl)))

module _ (file : List ℕ) (b : ℕ) (file' : List ℕ) (good : Qpl2File file) (h : b < length file / 512) (d : Damaged file b file') where
  -- a part before the block is as it was
  kept : (at n : ℕ) → at + n ≤ 512 * b → part at n file' ≡ part at n file
  kept at n g = same_part file file' at n d.long (omega (arith, g, h)) (λ i l. d.before (at + i) (omega arith))

  -- so are the letters, where the block is not theirs
  kept_version : 0 < b → version_of file' ≡ qpl2
  kept_version g = same_version file file' (kept 4 4 (omega arith)) ∙ good.letters

  -- and the blocks before it, which were right
  kept_block : (k : ℕ) → k < b → block_broken (version_of file') file' k ≡ false
  kept_block k g =
      ap (λ (v : ℕ). block_broken v file' k) (kept_version (omega arith))
      ∙ same_block qpl2 file file' k (kept (512 * k) 4 (omega arith)) (kept (512 * k + 508) 4 (omega arith)) (kept (512 * k) 508 (omega arith))
      ∙ right_block qpl2 file good k (omega arith)

  -- what is stored is the check of what stood there
  stored_check : number_at (512 * b + 508) 4 file' ≡ 1 + tilt 508 (part (512 * b) 508 file)
  unfolding number_at
  stored_check = ap value d.stored ∙ (block_rules qpl2 file b (right_block qpl2 file good b h)).1 ∙ sym (check_tilt qpl2 (part (512 * b) 508 file) refl)

  -- where the letters do not say QPL2 any more, the block is theirs
  lighter : version_of file' ≢ qpl2 → sum (part (512 * b) 508 file') ≤ tilt 508 (part (512 * b) 508 file)
  lighter ne = d.light (none_but_0 (ℕ_discrete b 0))
    where
      none_but_0 : Dec (b ≡ 0) → b ≡ 0
      none_but_0 (yes z) = z
      none_but_0 (no z) = absurd (ne (kept_version (omega (arith, z))))

  -- so the block is broken, whichever check the letters choose
  broken_block : block_broken (version_of file') file' b ≡ true
  broken_block =
      other_check (version_of file') file' b
      (λ e. unequal_check (version_of file') (part (512 * b) 508 file) (part (512 * b) 508 file') d.tilted lighter (sym stored_check ∙ e))

  -- and is the lowest
  lowest_broken : bad_block file' ≡ some b
  unfolding bad_block
  lowest_broken =
      first_found (block_broken (version_of file') file') 0 b (length file' / 512) (λ i g. rw (zero-add i) (kept_block i g)) (omega (arith, h, d.long))
      (rw (zero-add b) broken_block)
      ∙ ap some (zero-add b)

  -- and so the file is refused there
  pub damaged_refused : RefusedAt b file'
  damaged_refused = refused_at file' b (ap length_out d.long ∙ good.long) lowest_broken
