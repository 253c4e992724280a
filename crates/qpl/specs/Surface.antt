-- The C surface. A call gives one 64-bit number back: 0, or a refusal with its number in the low 32 bits and what it carries in the high 32.
-- What it answers goes to a lent buffer, each value in eight bytes, low byte first. Assumes nothing.
use Rattle.std.specs.Prelude.{List, ℕ, ◌*◌}
use Rattle.tables.specs.Refusals.{Reply}
use Rattle.rules.specs.declared.Fields.{Fields}
use Rattle.telling.specs.Told.{Told}
use Rattle.telling.specs.Parts.{most_values}

-- what the reader's answer takes: its values, of eight bytes each
abbrev pub read_bytes : ℕ
read_bytes = 8 * most_values

-- A planning call: some answer keeps the promise and is told.
pub record Tells {A : Type 0} (reply_of : A → Reply) (Kept : A → Type 0) (answer : List ℕ) (word : ℕ) (answer' : List ℕ) : Type 0 where
  pub given : A
  pub kept : Kept given
  pub told : Told (reply_of given) answer word answer'

-- the writer's fields from its numbers
abbrev pub fields_told : (scans settings law kind budget n d rate distortion peak floor weighted : ℕ) → Fields
fields_told scans settings law kind budget n d rate distortion peak floor weighted = record {
  scans = scans;
  settings = settings;
  law = law;
  kind = kind;
  budget = budget;
  n = n;
  d = d;
  rate = record { 0 = rate };
  distortion = record { 0 = distortion };
  peak = peak;
  floor = record { 0 = floor };
  weighted = weighted;
}
