-- Nothing can be said of what arrives, but that it was a text. Assumes nothing.
use Rattle.std.specs.Prelude.{List, ℕ}
use Rattle.reading.specs.Fed.{Fed}
use Rattle.reading.specs.declared.State.{State}

-- some text was read, and this is what is known of it
abbrev pub Got : List ℕ → State → Type 0
Got numbers s = (text : List ℕ) × Fed text numbers s
