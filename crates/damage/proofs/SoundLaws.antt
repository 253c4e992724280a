-- What a file has whose letters are those of a version and whose blocks are all right. Assumes nothing.
use mathlib.Core.Path.{◌≡◌, sym, ap, ◌∙◌}
use mathlib.Core.Bool.{false}
use mathlib.Core.List.{List}
use Prim.Native.Nat.{ℕ, ◌/◌, ◌≤◌, ◌<◌}
use native.Mathlib.Omega.{arith}
use lib.Dec.{eqb}
use lib.ListN.{length}
use borrow.Author.Tests.{ne_eqb}
use Rattle.checks.proofs.CheckLaws.{none_so}
use Rattle.octets.specs.Bytes.{part}
use Rattle.blocks.specs.Letters.{no_version, Known, letters, version_of}
use Rattle.blocks.specs.Blocks.{block_broken, bad_block}
use Rattle.blocks.proofs.LetterLaws.{version_letters}
use Rattle.planfile.proofs.ReadLaws.{two_lengths}
use Rattle.damage.specs.Damage.{SoundFile}

module _ (version : ℕ) (file : List ℕ) (good : SoundFile version file) where
  -- two blocks at least
  pub enough : 1024 ≤ length file
  enough = (two_lengths (length file) good.long).0

  -- every block right by its version's check
  pub right_block : (k : ℕ) → k < length file / 512 → block_broken version file k ≡ false
  unfolding bad_block
  right_block k g =
      ap (λ (v : ℕ). block_broken v file k) (sym good.letters)
      ∙ none_so (length file / 512) (block_broken (version_of file) file) 0 good.blocks k (omega arith) (omega arith)

  -- its letters in bytes 4 to 7
  pub own_letters : Known version → letters version ≡ part 4 4 file
  own_letters known =
      let other : eqb (version_of file) no_version ≡ false =
      ap (λ (v : ℕ). eqb v no_version) good.letters ∙ ne_eqb version no_version (λ e. absurd (omega (arith, e, known.0))) in
      ap letters (sym good.letters) ∙ version_letters file (omega (arith, enough)) other
