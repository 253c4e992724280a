-- What stands between the two calls: what every cell holds after an import, and what one call leaves, handed to the other. Assumes nothing.
use Rattle.std.specs.Prelude.{◌≡◌, ◌≢◌, ◌⊎◌, List, [], ◌∷◌, ◌++◌, ℕ, ◌≤◌, ◌<◌, ltb, length, get_or, take, drop}
use Rattle.std.proofs.Math.Option.{none, some}
use Rattle.tables.specs.declared.refusal.Refusal.TheVariants as refusal
use Rattle.tables.specs.Limits.{forbidden}
use Rattle.tables.specs.Tables.{cells}
use Rattle.tables.specs.Legal.{AllLegal, no_weights}
use Rattle.checks.specs.Checks.{when}
use Rattle.lines.specs.declared.says.Entry.{Entry}
use Rattle.lines.specs.Text.{lines}
use Rattle.lines.specs.Said.{says_of}
use Rattle.imports.specs.Import.{cell_of, filled, import_of}
use Rattle.exports.specs.Export.{export_text, export_refusal, export_of}
use Rattle.lists.specs.Shown.{zeroed}

-- some line says e
abbrev pub Says : List (List ℕ) → Entry → Type 0
Says [] e = ⊥
Says (l ∷ ls) e = (says_of l ≡ some e) ⊎ Says ls e

-- what every cell holds after an import: what the line that names it says, and where none does, "forbidden with distortion 0"
pub record EveryCell (N Q : ℕ) (text R D S : List ℕ) : Type 0 where
  pub named_rate : (e : Entry) → Says (lines text) e → get_or (import_of N Q text R D S).rates (cell_of Q e) 0 ≡ e.rate
  pub named_distortion : (e : Entry) → Says (lines text) e → get_or (import_of N Q text R D S).distortions (cell_of Q e) 0 ≡ e.distortion
  pub unnamed_rate : (c : ℕ) → c < cells N Q → ((e : Entry) → Says (lines text) e → cell_of Q e ≢ c) →
      get_or (import_of N Q text R D S).rates c 0 ≡ forbidden
  pub unnamed_distortion : (c : ℕ) → c < cells N Q → ((e : Entry) → Says (lines text) e → cell_of Q e ≢ c) →
      get_or (import_of N Q text R D S).distortions c 0 ≡ 0

-- the text that an export leaves: as many bytes as it says
abbrev pub exported_text : (N Q : ℕ) (rates distortions T : List ℕ) → List ℕ
exported_text N Q rates distortions T =
    take (get_or (export_of N Q rates distortions T).reply.values 0 0) (export_of N Q rates distortions T).text

-- the tables that an import leaves
abbrev pub rates_left : (N Q : ℕ) (text R D S : List ℕ) → List ℕ
rates_left N Q text R D S = take (cells N Q) (import_of N Q text R D S).rates

abbrev pub distortions_left : (N Q : ℕ) (text R D S : List ℕ) → List ℕ
distortions_left N Q text R D S = take (cells N Q) (import_of N Q text R D S).distortions

-- tables and scratch of at least a byte or a cell for each cell
pub record Roomy (N Q : ℕ) (R D S : List ℕ) : Type 0 where
  pub rates_long : cells N Q ≤ length R
  pub distortions_long : cells N Q ≤ length D
  pub scratch_long : cells N Q ≤ length S

-- what was exported is imported: the same rates, the same distortions but for 0 beside forbidden rates, scratch zero over its need, and
-- nothing else changed
pub record Returned (N Q : ℕ) (rates distortions text R D S : List ℕ) : Type 0 where
  pub accepted : (import_of N Q text R D S).ends ≡ none
  pub rates_back : (import_of N Q text R D S).rates ≡ rates ++ drop (cells N Q) R
  pub distortions_back : (import_of N Q text R D S).distortions ≡ zeroed rates distortions ++ drop (cells N Q) D
  pub scratch_zero : (import_of N Q text R D S).scratch ≡ filled (cells N Q) 0 S

-- tables that are legal, whose export is refused for want of room alone, and which come back from it as they are
pub record Stays (N Q : ℕ) (rates distortions : List ℕ) : Type 0 where
  pub legal : AllLegal no_weights rates distortions
  pub room_alone : (T : List ℕ) →
      export_refusal N Q rates distortions (length T) ≡ when (ltb (length T) (length (export_text N Q rates distortions))) refusal.Buffer
  pub again : (T R D S : List ℕ) → (export_of N Q rates distortions T).reply.number ≡ 0 → Roomy N Q R D S →
      ((import_of N Q (exported_text N Q rates distortions T) R D S).ends ≡ none)
      × ((rates_left N Q (exported_text N Q rates distortions T) R D S ≡ rates)
      × (distortions_left N Q (exported_text N Q rates distortions T) R D S ≡ distortions))
