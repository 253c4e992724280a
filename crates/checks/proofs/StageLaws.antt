-- A stage at its place among the checks: where it stopped, and where it passed. Assumes nothing.
use mathlib.Core.Path.{◌≡◌, refl, sym, ap}
use mathlib.Core.Option.{Option, none, some}
use mathlib.Core.List.{List, ◌∷◌}
use Rattle.std.specs.Prelude.{Result, Ok, Err}
use Rattle.laws.proofs.Tests.{never}
use Rattle.tables.specs.declared.refusal.Refusal.{Refusal}
use Rattle.tables.specs.Refusals.{ended}
use Rattle.checks.specs.Checks.{or_else, first_refusal}

-- a stage that stopped ends as all do that come from it on
pub at_stop : {w : Refusal} {o : Option Refusal} (rest : List (Option Refusal)) → some w ≡ o → some w ≡ first_refusal (o ∷ rest)
at_stop {w} {o} rest e = ap (λ x. or_else x (first_refusal rest)) e

-- a stage that passed leaves it to those after it
pub at_pass : {o : Option Refusal} (rest : List (Option Refusal)) → none ≡ o → first_refusal (o ∷ rest) ≡ first_refusal rest
at_pass {o} rest e = ap (λ x. or_else x (first_refusal rest)) (sym e)

-- two stages that end alike are the same
pub ended_unique : (a b : Result (Unit {0}) Refusal) → ended a ≡ ended b → a ≡ b
ended_unique (Ok x) (Ok y) e = refl
ended_unique (Ok x) (Err r) e = never cc
ended_unique (Err r) (Ok x) e = never cc
ended_unique (Err r) (Err r') e = ap Err cc
