-- The sizes of document 01, "Plan file", with document 02, [5]. Assumes nothing.
use Rattle.std.specs.Prelude.{ℕ}

-- "Blocks of 512 bytes", of which "bytes 508 to 511" are the check
abbrev pub block_size : ℕ
block_size = 512

abbrev pub body_size : ℕ
body_size = 508

-- "bytes 4 to 507, two to a byte": 504 bytes of entries, 1,008 entries a block
abbrev pub block_pairs : ℕ
block_pairs = 504

abbrev pub block_entries : ℕ
block_entries = 1008

-- "length 1,536" and "1,024"
abbrev pub short_file : ℕ
short_file = 1024

abbrev pub long_file : ℕ
long_file = 1536

-- "13 to 15: zero" in QPL1; in QPL2 "14 to 15 stay zero"; and "48 to 507: zero"
abbrev pub first_run : ℕ
first_run = 3

abbrev pub short_run : ℕ
short_run = 2

abbrev pub last_run : ℕ
last_run = 460
