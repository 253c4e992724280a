-- How the checks of a call end, in code. Assumes nothing.
use Rattle.std.specs.Prelude.{Bool, ℕ}
use Rattle.std.proofs.Math.Option.{Option, none, some}
use Rattle.tables.specs.Limits.{most_scans}
use Rattle.tables.specs.declared.refusal.Refusal.{Refusal}
use Rattle.checks.specs.Planning.{Asked, UnsoundBy, SoundBy, buffers_short}

-- the checks 1 to 7 came out as this
abbrev pub CheckedBy : (most : ℕ) → Option Refusal → (short : Bool) → Asked → Option Refusal → Type 0
CheckedBy most further short a none = SoundBy most further short a
CheckedBy most further short a (some r) = UnsoundBy most further short a r

-- .. of the four calls
abbrev pub CheckedAs : Option Refusal → Asked → Option Refusal → Type 0
CheckedAs further a = CheckedBy most_scans further (buffers_short a.N a.Q a.plan a.scratch) a
