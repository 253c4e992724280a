-- The line of a cell: its fields, and how long it is. Assumes nothing.
use mathlib.Core.Path.{◌≡◌, refl}
use mathlib.Core.List.{List, [], ◌∷◌, ◌++◌, append_assoc}
use Prim.Native.Nat.{ℕ, ◌+◌, ◌≤◌, ◌<◌}
use native.Mathlib.Decide.{ℕ_discrete}
use native.Mathlib.Omega.{arith}
use lib.ListN.{length, length-append}
use borrow.Author.Tests.{eq-eqb, ne_eqb}
use Rattle.exports.specs.declared.place.Place.{Place}
use Rattle.exports.specs.Export.{decimal, previous_field, export_line}
use Rattle.exports.proofs.DecimalLaws.{width_most}

-- the previous field is empty at scan 0
pub previous_none : (p : Place) → p.scan ≡ 0 → previous_field p ≡ []
unfolding previous_field
previous_none p e = rw (eq-eqb p.scan 0 e) refl

-- .. and only there
pub previous_some : (p : Place) → (p.scan ≡ 0 → ⊥) → previous_field p ≡ decimal p.previous
unfolding previous_field
previous_some p n = rw (ne_eqb p.scan 0 n) refl

pub previous_short : (p : Place) → p.previous < 100 → length (previous_field p) ≤ 2
previous_short p h = of (ℕ_discrete p.scan 0)
  where
    of : Dec (p.scan ≡ 0) → length (previous_field p) ≤ 2
    of (yes e) = rw (previous_none p e) (omega arith)
    of (no n) = rw (previous_some p n) (width_most 1 p.previous h)

-- a field with the comma behind it
abbrev pub field : List ℕ → List ℕ
field l = l ++ (44 ∷ [])

-- the line by its fields
pub line_is : (p : Place) (rate distortion : ℕ) →
    field (decimal p.scan) ++ field (previous_field p) ++ field (decimal p.setting) ++ field (decimal rate) ++ decimal distortion ++ (13 ∷ 10 ∷ [])
    ≡ export_line p rate distortion
unfolding export_line
line_is p rate distortion = simp append_assoc

-- its digits, four commas, CR and LF
pub line_long : (p : Place) (rate distortion : ℕ) → length (export_line p rate distortion)
    ≡ length (decimal p.scan) + length (previous_field p) + length (decimal p.setting) + length (decimal rate) + length (decimal distortion) + 6
unfolding export_line
line_long p rate distortion = simp length-append (omega arith)

-- at most 4, 2, 2, 7 and 7 digits
pub line_short : (p : Place) (rate distortion : ℕ) →
    (p.scan < 10000) × ((p.previous < 100) × ((p.setting < 100) × ((rate < 10000000) × (distortion < 10000000)))) → length (export_line p rate distortion) ≤ 28
line_short p rate distortion h = omega (
  arith,
  line_long p rate distortion,
  width_most 3 p.scan h.0,
  previous_short p h.1.0,
  width_most 1 p.setting h.1.1.0,
  width_most 6 rate h.1.1.1.0,
  width_most 6 distortion h.1.1.1.1,
)
