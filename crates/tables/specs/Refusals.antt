-- Document 01, "Numbers a caller can get back", and what document 02 adds to them. Assumes nothing.
use Rattle.std.specs.Prelude.{List, [], ◌∷◌, ℕ, Result, Ok, Err}
use Rattle.std.proofs.Math.Option.{Option, none, some}
use Rattle.tables.specs.declared.refusal.Refusal.{Refusal}
use Rattle.tables.specs.declared.refusal.Refusal.TheVariants.{Scans, Settings, StepLaw, Multiplier, Lengths, Buffer, Cell, NoSequence, NoneWithin, Channels, FileLength, Block, Header, Entry, Malformed, OutOfRange, Twice, Budget}

-- the column "No."
abbrev pub number_of : Refusal → ℕ
number_of Scans = 1
number_of Settings = 2
number_of StepLaw = 3
number_of Multiplier = 4
number_of Lengths = 5
number_of Buffer = 6
number_of (Cell k) = 7
number_of NoSequence = 8
number_of NoneWithin = 9
number_of Channels = 10
number_of FileLength = 11
number_of (Block b) = 12
number_of (Header byte) = 13
number_of (Entry e) = 14
number_of (Malformed line) = 16
number_of (OutOfRange line) = 17
number_of (Twice line) = 18
number_of Budget = 19

-- the column "Carries", and 0 where that is empty
abbrev pub carried_by : Refusal → ℕ
carried_by Scans = 0
carried_by Settings = 0
carried_by StepLaw = 0
carried_by Multiplier = 0
carried_by Lengths = 0
carried_by Buffer = 0
carried_by (Cell k) = k
carried_by NoSequence = 0
carried_by NoneWithin = 0
carried_by Channels = 0
carried_by FileLength = 0
carried_by (Block b) = b
carried_by (Header byte) = byte
carried_by (Entry e) = e
carried_by (Malformed line) = line
carried_by (OutOfRange line) = line
carried_by (Twice line) = line
carried_by Budget = 0

-- What a caller gets back from any call: 0 and the values of an answer, or a refusal's number and what it carries.
pub record Reply : Type 0 where
  pub number : ℕ
  pub values : List ℕ

abbrev pub refused : Refusal → Reply
refused r = record { number = number_of r; values = carried_by r ∷ [] }

abbrev pub answered : List ℕ → Reply
answered v = record { number = 0; values = v }

-- the refusal that a call, a check or a stage of them ended with, or none
abbrev pub ended : {A : Type 0} → Result A Refusal → Option Refusal
ended (Ok x) = none
ended (Err r) = some r
