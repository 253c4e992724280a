-- What the parts of an export ask of each other. Assumes nothing.
use Rattle.std.specs.Prelude.{ℕ, ◌≤◌, ◌<◌}
use Rattle.tables.specs.Limits.{most_scans, most_settings}
use Rattle.exports.specs.declared.place.Place.{Place}

-- a place within the limits of tables
abbrev pub Placed : Place → Type 0
Placed p = (p.scan ≤ most_scans) × ((p.previous < most_settings) × (p.setting < most_settings))

-- the numbers of a line have at most 4, 2, 2, 7 and 7 digits
abbrev pub FewDigits : Place → (rate distortion : ℕ) → Type 0
FewDigits p rate distortion = (p.scan < 10000) × ((p.previous < 100) × ((p.setting < 100) × ((rate < 10000000) × (distortion < 10000000))))
