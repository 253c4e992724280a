-- A pass that is made of steps leaves the best sequence, whatever the law: it enters as which pairs it allows, in the step's contract, and
-- as nothing else. Assumes nothing.
use mathlib.Core.Path.{◌≡◌, refl, sym, ◌∙◌}
use mathlib.Core.Bool.{Bool}
use mathlib.Core.List.{List}
use Prim.Native.Nat.{ℕ, ◌≤◌}
use native.Mathlib.Omega.{arith}
use lib.ListN.{length, get_or}
use Rattle.tables.specs.Tables.{Table, scratch_need}
use Rattle.checks.specs.Fit.{Fit}
use Rattle.least.specs.declared.Rule.{Rule}
use Rattle.least.specs.Row.{Light}
use Rattle.trellis.specs.Made.{SteppedTo, unstepped, stepped, Made}
use Rattle.trellis.specs.Pass.{PassOf, pass_problem}
use Rattle.trellis.proofs.PassLaws.{Done, done_none, done_more, pass_none, pass_some}

module _ {t : Table} {rule : Rule} {before : List ℕ} where
  -- scratch is as long as it was
  pub stepped_long : {i : ℕ} {keys scratch : List ℕ} → SteppedTo t rule before i keys scratch → length scratch ≡ length before
  stepped_long (unstepped e z) = refl
  stepped_long (stepped e h r d s w) = s.long ∙ stepped_long w

  -- and beyond what the call needs as it was
  pub stepped_rest : {i : ℕ} {keys scratch : List ℕ} → SteppedTo t rule before i keys scratch →
      (k : ℕ) → scratch_need t.N t.Q ≤ k → get_or scratch k 0 ≡ get_or before k 0
  stepped_rest (unstepped e z) k h = refl
  stepped_rest (stepped e l r d s w) k h = s.beyond t.N k l h ∙ stepped_rest w k h

  module _ {room : ℕ} (fit : Fit t.N t.Q t.rates t.distortions t.weights room) (light : Light rule) where
    -- what lies ahead of each setting is known
    pub stepped_done : {i : ℕ} {keys scratch : List ℕ} → SteppedTo t rule before i keys scratch → Done t rule i scratch keys
    stepped_done {i} {keys} (unstepped e z) = done_none t rule fit light i before keys e z
    stepped_done (stepped e l r d s w) = done_more t rule fit light (omega (arith, e)) r d s e (stepped_done w)

    -- the best sequence is chosen, or there is none
    pub pass_made : {after : List ℕ} {found : Bool} → Made t rule before after found →
        PassOf (pass_problem rule.ceiling t) t.N t.Q rule before after found
    pass_made m = record {
      none = λ e. pass_none t rule fit light m.rates m.distortions (stepped_done m.steps) m.stored m.rates_of m.distortions_of m.best
          (sym m.told ∙ e);
      some = λ e. pass_some t rule fit light m.rates m.distortions (stepped_done m.steps) m.stored m.rates_of m.distortions_of m.best
          (sym m.told ∙ e);
      long = m.stored.long ∙ stepped_long m.steps;
      rest = λ k h. m.stored.beyond t.N k fit.some_scans h ∙ stepped_rest m.steps k h;
    }
