-- Demand 2's file sentence: "A written file reads back as the same plan; every accepted file is the one its plan would be written as." Document
-- 02, [4]: it "then speaks of QPL2, and for QPL1 only of reading". What it says of the two calls, and of the files that plans have. Assumes
-- nothing.
use Rattle.std.specs.Prelude.{◌≡◌, List, ◌++◌, ℕ, ◌^◌, ◌≤◌, ◌<◌, length, take, drop, Ok}
use Rattle.std.proofs.Math.Option.{none}
use Rattle.rules.specs.declared.Fields.{Fields}
use Rattle.blocks.specs.Letters.{qpl2, version_of}
use Rattle.blocks.specs.File.{InVersion, file_of, file_length}
use Rattle.planfile.specs.Reading.{fields_of, plan_read, read_refusal, read_of, read_reply, settings_after}
use Rattle.planfile.specs.Writing.{write_refusal, write_of, write_reply, file_after}

-- the file that a write leaves in the lent buffer: its first bytes, as many as N asks
abbrev pub file_left : Fields → (settings buffer : List ℕ) → List ℕ
file_left f settings buffer = take (file_length f.scans) (file_after (write_refusal f settings (length buffer)) f settings buffer)

-- What the two calls say, one after the other: the writer is given f and `given` and lent `buffer`, and the reader is given the file that is
-- left there and lent `lent`.
pub record WrittenAndRead (f : Fields) (given buffer lent : List ℕ) : Type 0 where
  -- the writer answers with the file's length
  pub written : write_of f given (length buffer) ≡ write_reply (Ok (file_length f.scans))
  -- the reader answers with the same fields, and that it was QPL2
  pub answer : read_of (file_left f given buffer) (length lent) ≡ read_reply (Ok (record { fields = f; version = qpl2 }))
  -- and hands over the same N settings; the rest of its buffer is as it was
  pub settings : settings_after (read_refusal (file_left f given buffer) (length lent)) (file_left f given buffer) lent
      ≡ take f.scans given ++ drop f.scans lent

-- the settings that a read leaves in the lent buffer: its first bytes, as many as N
abbrev pub settings_left : (file lent : List ℕ) → List ℕ
settings_left file lent = take (fields_of file).scans (settings_after (read_refusal file (length lent)) file lent)

-- What the two calls say the other way round: the reader is given `file` and lent `lent`, and the writer is given the fields and the settings
-- that were read, and lent `buffer`.
pub record ReadAndWritten (file lent buffer : List ℕ) : Type 0 where
  -- the reader answers with the fields, and the version
  pub answer : read_of file (length lent) ≡ read_reply (Ok (plan_read file))
  -- the writer answers with the file's length
  pub written : write_of (fields_of file) (settings_left file lent) (length buffer) ≡ write_reply (Ok (file_length (fields_of file).scans))
  -- and what it leaves in its buffer is the file of what was read, in QPL2
  pub left : file_left (fields_of file) (settings_left file lent) buffer ≡ file_of qpl2 (fields_of file) (settings_left file lent)
  -- which is the same file, where it was in QPL2
  pub same : version_of file ≡ qpl2 → file_left (fields_of file) (settings_left file lent) buffer ≡ file

-- A plan that has this file in this version: the writer accepts it, with a buffer of some length, its N settings fit a buffer of `room`, and
-- the version can hold it. The budget is a number of 64 bits, as in the code.
pub record HasPlan (version : ℕ) (file : List ℕ) (room : ℕ) : Type 0 where
  pub fields : Fields
  pub settings : List ℕ
  pub buffer : ℕ
  pub budget : fields.budget < 2 ^ 64
  pub enough : fields.scans ≤ room
  pub written : write_refusal fields settings buffer ≡ none
  pub held : InVersion version fields
  pub same : file ≡ file_of version fields settings
