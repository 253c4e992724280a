-- When bench has read enough, and what it has written then. Assumes nothing.
use Rattle.std.specs.Prelude.{◌≡◌, Bool, ◌||◌, List, ◌++◌, ℕ, ltb, get_or}
use Rattle.tables.specs.Tables.{cells}
use Rattle.checks.specs.Planning.{scans_out, settings_out}
use Rattle.tables.specs.Law.{law_out}
use Rattle.reading.specs.Fed.{Fed}
use Rattle.reading.specs.declared.State.{State}
use Rattle.workbench.specs.Request.{request, most_cells}
use Rattle.workbench.specs.Written.{Writes}

-- the first four numbers settle what is written: "reads no further"
abbrev pub settles : List ℕ → Bool
settles h = scans_out (get_or h 0 0) || settings_out (get_or h 1 0) || law_out (get_or h 2 0) || ltb most_cells (cells (get_or h 0 0) (get_or h 1 0))

-- whatever follows the text that was read, it asks the same
abbrev pub Decided : List ℕ → State → Type 0
Decided numbers s = (text : List ℕ) → Fed text numbers s → (rest : List ℕ) → request (text ++ rest) ≡ request text

-- these are the lines for the text that was read
abbrev pub Answers : List ℕ → State → List ℕ → Type 0
Answers numbers s out = (text : List ℕ) → Fed text numbers s → Writes text out
