-- What an export shows of a cell. Assumes nothing.
use Rattle.std.specs.Prelude.{Option, Some, None, List, [], ℕ}
use Rattle.exports.specs.declared.line.Line.{Line}
use Rattle.exports.specs.Export.{export_line}

-- the bytes of its line, if it has one
abbrev pub text_of : Option Line → List ℕ
text_of (Some l) = export_line l.place l.rate l.distortion
text_of None = []
