-- The line of a cell, or none where it is forbidden. Assumes nothing.
use mathlib.Core.Path.{◌≡◌, refl}
use mathlib.Core.Logic.{◌⊎◌, inl, inr, ⊎_elim}
use mathlib.Core.List.{[]}
use Prim.Native.Nat.{ℕ, ◌≤◌, ◌<◌}
use native.Mathlib.Decide.{ℕ_discrete}
use native.Mathlib.Omega.{arith}
use lib.ListN.{length}
use borrow.Author.Tests.{eq-eqb, ne_eqb}
use Rattle.tables.specs.Limits.{most_cell, forbidden}
use Rattle.tables.specs.Legal.{LegalRate, LegalBeside}
use Rattle.exports.specs.declared.place.Place.{Place}
use Rattle.exports.specs.Export.{export_line, cell_line}
use Rattle.exports.specs.Parts.{Placed}
use Rattle.exports.proofs.LineLaws.{line_short}

pub no_line : (p : Place) (rate distortion : ℕ) → rate ≡ forbidden → cell_line p rate distortion ≡ []
no_line p rate distortion e = rw (eq-eqb rate forbidden e) refl

pub its_line : (p : Place) (rate distortion : ℕ) → (rate ≡ forbidden → ⊥) → cell_line p rate distortion ≡ export_line p rate distortion
its_line p rate distortion n = rw (ne_eqb rate forbidden n) refl

-- what is not beside a forbidden rate has seven digits at most
pub seven_digits : {x r : ℕ} → (x ≤ most_cell) ⊎ (r ≡ forbidden) → (r ≡ forbidden → ⊥) → x < 10000000
seven_digits h n = ⊎_elim (λ a. omega arith) (λ e. absurd (n e)) h

-- a distortion that is legal beside its rate is in range as it stands
pub plain_beside : {r d : ℕ} → LegalBeside 1 r d → (d ≤ most_cell) ⊎ (r ≡ forbidden)
plain_beside = ⊎_elim (λ a. inl a.0) inr

-- a line is short
pub cell_short : (p : Place) (rate distortion : ℕ) → Placed p → LegalRate rate → LegalBeside 1 rate distortion →
    length (cell_line p rate distortion) ≤ 28
cell_short p rate distortion l r d = of (ℕ_discrete rate forbidden)
  where
    of : Dec (rate ≡ forbidden) → length (cell_line p rate distortion) ≤ 28
    of (yes e) = rw (no_line p rate distortion e) (omega arith)
    of (no n) =
        rw (its_line p rate distortion n)
        (line_short p rate distortion (omega arith, (omega arith, (omega arith, (seven_digits r n, seven_digits (plain_beside d) n)))))
