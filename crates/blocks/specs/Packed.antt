-- Where the byte of an entry stands. Assumes nothing.
use Rattle.std.specs.Prelude.{ℕ, suc, ◌+◌, ◌*◌, ◌/◌, ◌%◌}
use Rattle.blocks.specs.Sizes.{block_size, block_entries}

-- the byte of entry j
abbrev pub place_of : ℕ → ℕ
place_of j = block_size * suc (j / block_entries) + 4 + j % block_entries / 2
