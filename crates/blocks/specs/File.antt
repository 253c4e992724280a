-- Document 01, "Plan file", with document 02, [4] and [5]: the bytes that a plan has as a file of a version. Assumes nothing.
use Rattle.std.specs.Prelude.{◌≡◌, Bool, not, cond, List, [], ◌∷◌, ◌++◌, ℕ, zero, suc, ◌+◌, ◌*◌, ◌/◌, ◌%◌, eqb, ltb, get_or, replicate}
use Rattle.blocks.specs.Sizes.{block_size, block_entries, block_pairs, short_run, last_run, short_file, long_file}
use Rattle.blocks.specs.Letters.{qpl1, letters}
use Rattle.blocks.specs.BlockCheck.{check_of}
use Rattle.rules.specs.declared.Fields.{Fields}
use Rattle.octets.specs.Bytes.{le, half}

-- a block: its bytes, and then their check
abbrev pub sealed : (version : ℕ) → List ℕ → List ℕ
sealed version body = body ++ le 4 (check_of version body)

-- Block 0: its number; "4 to 7: the four letters", which are the version's; "8 to 9: N. 10: Q. 11: law. 12: kind"; document 02, [5]: "byte 13
-- becomes a field of its own", "14 to 15 stay zero"; "16 to 23: B. 24 to 27: n. 28 to 31: d. 32 to 35: rate. 36 to 39: distortion. 40 to 43:
-- peak. 44 to 47: floor. 48 to 507: zero." A plan that a QPL1 file can hold has 0 in byte 13 (`InVersion`).
unfoldable pub header : (version : ℕ) → Fields → List ℕ
header version f =
    le 4 0 ++ letters version ++ le 2 f.scans ++ le 1 f.settings ++ le 1 f.law ++ le 1 f.kind ++ le 1 f.weighted
    ++ replicate short_run 0
    ++ le 8 f.budget ++ le 4 f.n ++ le 4 f.d ++ le 4 f.rate.0 ++ le 4 f.distortion.0 ++ le 4 f.peak ++ le 4 f.floor.0
    ++ replicate last_run 0

-- "entries from N on are zero"
abbrev pub entry_of : ℕ → List ℕ → ℕ → ℕ
entry_of N settings j = cond (ltb j N) (get_or settings j 0) 0

-- "two to a byte, the even entry in the low four bits": n bytes, from entry j on
abbrev pub pairs : (ℕ → ℕ) → ℕ → ℕ → List ℕ
pairs e j zero = []
pairs e j (suc n) = (e j + 16 * e (suc j)) ∷ pairs e (suc (suc j)) n

-- "Settings start in block 1, bytes 4 to 507 ..; block 2 goes on at entry 1,008": data block b, counted from 0, is block b + 1
unfoldable pub data_block : (ℕ → ℕ) → ℕ → List ℕ
data_block e b = le 4 (suc b) ++ pairs e (block_entries * b) block_pairs

-- "N over 1,008 goes with length 1,536 and smaller N with 1,024"
abbrev pub data_blocks : ℕ → ℕ
data_blocks N = cond (ltb block_entries N) 2 1

abbrev pub file_length : ℕ → ℕ
file_length N = block_size * suc (data_blocks N)

abbrev pub data_from : (version : ℕ) → (ℕ → ℕ) → ℕ → ℕ → List ℕ
data_from version e b zero = []
data_from version e b (suc n) = sealed version (data_block e b) ++ data_from version e (suc b) n

-- the file of a plan, as one of this version: block 0, then its data blocks
abbrev pub file_of : (version : ℕ) → Fields → List ℕ → List ℕ
file_of version f settings = sealed version (header version f) ++ data_from version (entry_of f.scans settings) 0 (data_blocks f.scans)

-- "QPL1 keeps 13 to 15 zero": a plan with the mark 1 has no file in QPL1
abbrev pub InVersion : (version : ℕ) → Fields → Type 0
InVersion version f = version ≡ qpl1 → f.weighted ≡ 0

-- entry j of a file
abbrev pub entry_at : List ℕ → ℕ → ℕ
entry_at file j = half (get_or file (block_size * suc (j / block_entries) + 4 + j % block_entries / 2) 0) (j % 2)

-- "N over 1,008 goes with length 1,536 and smaller N with 1,024; else refusal 13 at byte 8"
abbrev pub other_length : ℕ → ℕ → Bool
other_length n N = cond (ltb block_entries N) (not (eqb n long_file)) (not (eqb n short_file))
