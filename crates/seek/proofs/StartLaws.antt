-- How a call with a budget starts: what each answer tells. Assumes nothing.
use mathlib.Core.Path.{◌≡◌, refl, sym, ap, ◌∙◌}
use Rattle.std.specs.Prelude.{Ok}
use mathlib.Core.List.{List}
use Prim.Native.Nat.{ℕ}
use lib.ListN.{get_or}
use Rattle.criteria.specs.Choice.{Problem}
use Rattle.tables.specs.declared.refusal.Refusal.TheVariants as refusal
use Rattle.tables.specs.Refusals.{Reply, answered}
use Rattle.tables.specs.Tables.{scratch_need}
use Rattle.tables.proofs.RefusalLaws.{answered_or_refused}
use Rattle.walk.specs.declared.Totals.{Totals}
use Rattle.walk.specs.Walked.{total_values}
use Rattle.seek.specs.Sought.{Framed, ThriftyTotals}
use Rattle.seek.specs.Started.{StartedAs, start_reply, fits, none_allowed, none_fits}

-- totals with the same values are those of the same plan
same_totals : {P : Problem} {B : ℕ} {u t : Totals} → ThriftyTotals P B u → total_values u ≡ total_values t → ThriftyTotals P B t
same_totals h e = record {
  plan = h.plan;
  thriftiest = h.thriftiest;
  totals = record {
    rate = sym (ap (λ (l : List ℕ). get_or l 0 0) e) ∙ h.totals.rate;
    distortion = sym (ap (λ (l : List ℕ). get_or l 1 0) e) ∙ h.totals.distortion;
    peak = sym (ap (λ (l : List ℕ). get_or l 2 0) e) ∙ h.totals.peak;
  };
  fits = h.fits;
}

plan_start : {P : Problem} {N Q B : ℕ} {before after : List ℕ} {o : Reply} {t : Totals} → StartedAs P N Q B before after o → o ≡ answered (total_values t) →
    ThriftyTotals P B t × Framed (scratch_need N Q) before after
plan_start (fits h f) e = (same_totals h (ap (λ (x : Reply). x.values) e), f)
plan_start (none_allowed n w) e = absurd (answered_or_refused refusal.NoSequence (sym e))
plan_start (none_fits n w) e = absurd (answered_or_refused refusal.NoneWithin (sym e))

pub started_plan : {P : Problem} {N Q B : ℕ} {before after : List ℕ} {t : Totals} → StartedAs P N Q B before after (start_reply (Ok t)) →
    ThriftyTotals P B t × Framed (scratch_need N Q) before after
started_plan h = plan_start h refl
