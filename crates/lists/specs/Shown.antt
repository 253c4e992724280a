-- What an export shows of two tables. Assumes nothing.
use Rattle.std.specs.Prelude.{cond, List, [], ◌∷◌, ℕ, eqb, get_or, drop}
use Rattle.tables.specs.Limits.{forbidden}
use Rattle.lines.specs.declared.says.Entry.{Entry}
use Rattle.exports.specs.declared.place.Place.{Place}

-- "forbidden cells are not exported", and "a cell with no line becomes forbidden with distortion 0": the distortions, with 0 beside every forbidden rate
abbrev pub zeroed : (rates distortions : List ℕ) → List ℕ
zeroed [] distortions = []
zeroed (r ∷ rates) distortions = cond (eqb r forbidden) 0 (get_or distortions 0 0) ∷ zeroed rates (drop 1 distortions)

-- what the line of a cell says; at scan 0 there is no setting before, and 0 stands in its place
abbrev pub said_at : Place → (rate distortion : ℕ) → Entry
said_at p rate distortion = record {
  scan = p.scan;
  previous = cond (eqb p.scan 0) 0 p.previous;
  setting = p.setting;
  rate = rate;
  distortion = distortion;
}
