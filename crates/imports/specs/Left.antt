-- What the lines of a text say, and those that are left of it. Assumes nothing.
use Rattle.std.specs.Prelude.{List, ℕ, map}
use Rattle.std.proofs.Math.Option.{Option}
use Rattle.lines.specs.declared.says.Entry.{Entry}
use Rattle.lines.specs.Text.{lines}
use Rattle.lines.specs.Said.{says_of}
use Rattle.imports.specs.declared.left.Left.{Left}

-- what each line says
abbrev pub said_by : List ℕ → List (Option Entry)
said_by text = map says_of (lines text)

abbrev pub said_left : Left → List (Option Entry)
said_left l = said_by l.text.now
