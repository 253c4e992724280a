-- Document 02, [4]: "Show that in a QPL2 file any one changed byte among a block's 508, and any exchange of two unequal ones, is refused, the
-- letters included." What was done to a file, and what the reader then says. Assumes nothing.
use Rattle.std.specs.Prelude.{◌≡◌, false, List, ℕ, ◌+◌, ◌*◌, ◌/◌, ◌<◌, length, get_or, set}
use Rattle.std.proofs.Math.Option.{none, some}
use Rattle.tables.specs.declared.refusal.Refusal.TheVariants as refusal
use Rattle.tables.specs.Refusals.{refused}
use Rattle.blocks.specs.Sizes.{block_size, body_size}
use Rattle.blocks.specs.Letters.{qpl2, version_of}
use Rattle.blocks.specs.Blocks.{length_out, bad_block}
use Rattle.planfile.specs.Reading.{read_refusal, read_of, settings_after}

-- a file of 1,024 or 1,536 bytes, with the letters of a version and every block right. What its other fields and its entries are does not count.
pub record SoundFile (version : ℕ) (file : List ℕ) : Type 0 where
  pub long : length_out (length file) ≡ false
  pub letters : version_of file ≡ version
  pub blocks : bad_block file ≡ none

-- "a QPL2 file"
abbrev pub Qpl2File : List ℕ → Type 0
Qpl2File file = SoundFile qpl2 file

-- where byte k of block b stands
abbrev pub place : (b k : ℕ) → ℕ
place b k = block_size * b + k

-- it is one "among a block's 508", of a block that the file has
pub record Among (file : List ℕ) (b k : ℕ) : Type 0 where
  pub block : b < length file / block_size
  pub byte : k < body_size

-- "one changed byte": byte k of block b is v
abbrev pub changed : (b k v : ℕ) → List ℕ → List ℕ
changed b k v file = set file (place b k) v

-- "exchange of two": bytes j and k of block b
abbrev pub exchanged : (b j k : ℕ) → List ℕ → List ℕ
exchanged b j k file = changed b k (get_or file (place b j) 0) (changed b j (get_or file (place b k) 0) file)

-- "is refused": whatever is lent to it, the reader answers 12 with block b, the lowest that is wrong, and the lent settings stay as they were
pub record RefusedAt (b : ℕ) (file : List ℕ) : Type 0 where
  pub lowest : bad_block file ≡ some b
  pub answer : (room : ℕ) → read_of file room ≡ refused (refusal.Block b)
  pub settings : (lent : List ℕ) → settings_after (read_refusal file (length lent)) file lent ≡ lent
