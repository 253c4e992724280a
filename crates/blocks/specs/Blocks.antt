-- The blocks of a file that is read. Assumes nothing.
use Rattle.std.specs.Prelude.{Bool, not, ◌||◌, List, ℕ, ◌+◌, ◌*◌, ◌/◌, eqb, length}
use Rattle.std.proofs.Math.Option.{Option}
use Rattle.blocks.specs.Sizes.{block_size, body_size, short_file, long_file}
use Rattle.blocks.specs.Letters.{version_of}
use Rattle.blocks.specs.BlockCheck.{check_of}
use Rattle.checks.specs.Checks.{first_from}
use Rattle.octets.specs.Bytes.{part, number_at}

-- 11: "file length not 1,024 or 1,536"
abbrev pub length_out : ℕ → Bool
length_out n = not (eqb n short_file || eqb n long_file)

-- 12: "a block's number or check is wrong", in a file of this version
unfoldable pub block_broken : (version : ℕ) → List ℕ → ℕ → Bool
block_broken version file k =
    not (eqb (number_at (block_size * k) 4 file) k)
    || not (eqb (number_at (block_size * k + body_size) 4 file) (check_of version (part (block_size * k) body_size file)))

-- "lowest such block", of 2 or 3; "the letters in block 0 choose the check for 12"
unfoldable pub bad_block : List ℕ → Option ℕ
bad_block file = first_from (block_broken (version_of file) file) 0 (length file / block_size)
