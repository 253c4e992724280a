-- What the parts of a plain line's reading leave each other. Assumes nothing.
use Rattle.std.specs.Prelude.{◌≡◌, ◌⊎◌, true, Option, IfSome, List, ℕ, ◌≤◌, ◌<◌, length, get_or, drop}
use Rattle.std.proofs.Math.Option.{some}
use Rattle.std.proofs.Math.Seq.{slice}
use Rattle.reading.specs.Text.{digit}
use Rattle.lines.specs.Text.{line_end, number}
use Rattle.lines.specs.Said.{previous, says_of}
use Rattle.lines.specs.Parts.{LineEnds}
use Rattle.plain.specs.declared.digits.Digits.{Digits}
use Rattle.plain.specs.declared.plain.Read.{Read}

-- digits alone, from one place up to another
pub record Plainly (text : List ℕ) (from to : ℕ) : Type 0 where
  pub order : from ≤ to
  pub inside : to ≤ length text
  pub each : (i : ℕ) → from ≤ i → i < to → digit (get_or text i 0) ≡ true

-- digits from a place on, and the number that they write where there are some
pub record DigitsAt (text : List ℕ) (from : ℕ) (d : Digits) : Type 0 where
  pub plainly : Plainly text from d.to
  pub number_is : from < d.to → some d.value ≡ number (slice from d.to text)

-- a field: digits, and the comma after them
pub record FieldAt (text : List ℕ) (from : ℕ) (d : Digits) : Type 0 where
  pub plainly : Plainly text from d.to
  pub number_is : some d.value ≡ number (slice from d.to text)
  pub comma : get_or text d.to 0 ≡ 44

-- the previous field, after the scan
pub record PreviousAt (text : List ℕ) (from scan : ℕ) (d : Digits) : Type 0 where
  pub plainly : Plainly text from d.to
  pub number_is : some d.value ≡ previous scan (slice from d.to text)
  pub comma : get_or text d.to 0 ≡ 44

-- the last field: the line ends after it
pub record LastAt (text : List ℕ) (from : ℕ) (d : Digits) : Type 0 where
  pub plainly : Plainly text from d.to
  pub number_is : some d.value ≡ number (slice from d.to text)
  pub ends : (d.to ≡ length text) ⊎ (line_end (drop d.to text) ≡ true)

-- a line that was read is the line that starts there, and says what was read
abbrev pub IsPlain : List ℕ → ℕ → Option Read → Type 0
IsPlain text at o = IfSome o (λ r. LineEnds text at r.end × (some r.entry ≡ says_of (slice at r.end text)))
