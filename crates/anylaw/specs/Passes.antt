-- What a pass does under one law: which pairs it allows, and nothing else. This is of the code; the demands are in Demands.
-- Assumes nothing.
use Rattle.std.specs.Prelude.{Bool, List, ℕ}
use Rattle.tables.specs.Law.{Law}
use Rattle.tables.specs.Tables.{table_under}
use Rattle.checks.specs.Fit.{Fit}
use Rattle.least.specs.declared.Rule.{Rule}
use Rattle.least.specs.Row.{Light}
use Rattle.trellis.specs.Made.{Made}
use Rattle.trellis.specs.Pass.{PassOf, pass_problem}

-- a pass that is made of steps, each over the settings below Q that the law allows, leaves the best sequence, or says truly that there is none
pub record PassesHold (law : Law) : Type 0 where
  pub passes : {N Q room : ℕ} {rates distortions weights : List ℕ} → Fit N Q rates distortions weights room → (rule : Rule) → Light rule →
      {before after : List ℕ} {found : Bool} → Made (table_under law N Q rates distortions weights) rule before after found →
      PassOf (pass_problem rule.ceiling (table_under law N Q rates distortions weights)) N Q rule before after found
