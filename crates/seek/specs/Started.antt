-- How a call with a budget starts. No promise cites it. Assumes nothing.
use Rattle.std.specs.Prelude.{◌≡◌, List, ◌++◌, ℕ, drop, replicate, Result, Ok, Err}
use Rattle.tables.specs.Tables.{scratch_need}
use Rattle.tables.specs.Refusals.{Reply, refused, answered}
use Rattle.criteria.specs.Choice.{Problem, InBudget, NoneAllowed, NoneWithin}
use Rattle.tables.specs.declared.refusal.Refusal.{Refusal}
use Rattle.tables.specs.declared.refusal.Refusal.TheVariants as refusal
use Rattle.walk.specs.declared.Totals.{Totals}
use Rattle.walk.specs.Walked.{total_values}
use Rattle.seek.specs.Sought.{Framed, ThriftyTotals}

-- the number and the values of a start: 0 with the totals of the least-rate plan, or a refusal's
abbrev pub start_reply : Result Totals Refusal → Reply
start_reply (Ok t) = answered (total_values t)
start_reply (Err r) = refused r

pub data StartedAs (P : Problem) (N Q B : ℕ) (before after : List ℕ) : Reply → Type 0 where
  fits : {t : Totals} → ThriftyTotals P B t → Framed (scratch_need N Q) before after → StartedAs P N Q B before after (answered (total_values t))
  none_allowed : NoneAllowed P → after ≡ replicate (scratch_need N Q) 0 ++ drop (scratch_need N Q) before →
      StartedAs P N Q B before after (refused refusal.NoSequence)
  none_fits : NoneWithin P (InBudget P B) → after ≡ replicate (scratch_need N Q) 0 ++ drop (scratch_need N Q) before →
      StartedAs P N Q B before after (refused refusal.NoneWithin)
