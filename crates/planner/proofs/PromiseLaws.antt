-- How a call keeps its promise where the checks have passed: one law for each way out. Assumes nothing.
use mathlib.Core.Path.{◌≡◌, refl, sym, ◌∙◌}
use mathlib.Core.Bool.{false}
use mathlib.Core.List.{List}
use Prim.Native.Nat.{ℕ}
use Rattle.tables.specs.Tables.{scratch_need}
use Rattle.criteria.specs.Choice.{Problem, InBudget, NoneAllowed, NoneWithin}
use Rattle.tables.specs.declared.refusal.Refusal.{Refusal}
use Rattle.tables.specs.declared.refusal.Refusal.TheVariants as refusal
use Rattle.tables.specs.Refusals.{Reply, refused, answered}
use Rattle.checks.specs.Planning.{Asked, Sound, problem_of}
use Rattle.walk.specs.declared.Totals.{Totals}
use Rattle.trellis.specs.Choices.{chosen}
use Rattle.walk.specs.Walked.{TotalsOf, total_values}
use Rattle.promise.specs.Promise.{Promise, unsound, no_sequence, none_within, planned, totals}
use Rattle.checks.specs.Stages.{CheckedAs}
use Rattle.std.specs.Prelude.{Err}
use mathlib.Core.Option.{Option, some}
use Rattle.seek.specs.Sought.{Framed, Closed, Finished}
use Rattle.planner.specs.Given.{Delivered}
use Rattle.seek.specs.Started.{StartedAs, start_reply, fits, none_allowed, none_fits}
use Rattle.tables.proofs.RefusalLaws.{answered_or_refused}
use Rattle.seek.proofs.SeekLaws.{wiped_same}

-- the values of an answer are the sequence's totals
pub values_are : {P : Problem} {s : List ℕ} {t : Totals} → TotalsOf P s t → total_values t ≡ totals P s
values_are h = rw (h.rate, h.distortion, h.peak)

module _ {further : Option Refusal} {a : Asked} {within : List ℕ → Type 0} {Plan : List ℕ → List ℕ → Type 0} {plan scratch middle scratch' : List ℕ}
    (sound : Sound further a) (framed : Framed (scratch_need a.N a.Q) scratch middle) where
  pub says_none_allowed : {plan' : List ℕ} → Closed false a.N a.Q plan middle plan' scratch' → NoneAllowed (problem_of a) →
      Promise further a within Plan plan scratch (refused refusal.NoSequence) plan' scratch'
  says_none_allowed c none = no_sequence sound none refl c.handed (c.wiped ∙ wiped_same framed)

  pub says_none_within : {plan' : List ℕ} → Closed false a.N a.Q plan middle plan' scratch' → NoneWithin (problem_of a) within →
      Promise further a within Plan plan scratch (refused refusal.NoneWithin) plan' scratch'
  says_none_within c none = none_within sound none refl c.handed (c.wiped ∙ wiped_same framed)

  pub says_planned : {t : Totals} {plan' v : List ℕ} → Finished (problem_of a) a.N a.Q plan middle t plan' scratch' →
      Plan (chosen a.Q a.N middle) v → Promise further a within Plan plan scratch (answered v) plan' scratch'
  says_planned {v = v} f p = planned sound (chosen a.Q a.N middle) v p refl f.handed (f.wiped ∙ wiped_same framed)

-- what the checks answer, at a call's own ways out
pub checked_refused : {further further' : Option Refusal} {a : Asked} {within : List ℕ → Type 0} {Plan : List ℕ → List ℕ → Type 0} {plan scratch : List ℕ}
    {r : Refusal} → further ≡ further' → CheckedAs further a (some r) → Promise further' a within Plan plan scratch (refused r) plan scratch
checked_refused {r = r} f h = unsound {r = r} (rw f at h) refl refl refl

-- how a call with a budget goes on from its start
refused_start : {further : Option Refusal} {a : Asked} {B : ℕ} {Plan : List ℕ → List ℕ → Type 0} {plan scratch scratch' : List ℕ} {o : Reply} (r : Refusal) →
    Sound further a → StartedAs (problem_of a) a.N a.Q B scratch scratch' o → o ≡ refused r →
    Promise further a (InBudget (problem_of a) B) Plan plan scratch (refused r) plan scratch'
refused_start r sound (fits t f) e = absurd (answered_or_refused r e)
refused_start r sound (none_allowed n w) e = no_sequence sound n (sym e) refl w
refused_start r sound (none_fits n w) e = none_within sound n (sym e) refl w

pub started_refused : {further : Option Refusal} {a : Asked} {B : ℕ} {Plan : List ℕ → List ℕ → Type 0} {plan scratch scratch' : List ℕ} (r : Refusal) →
    Sound further a → StartedAs (problem_of a) a.N a.Q B scratch scratch' (start_reply (Err r)) →
    Promise further a (InBudget (problem_of a) B) Plan plan scratch (refused r) plan scratch'
started_refused r sound h = refused_start r sound h refl

pub started_given : {further : Option Refusal} {a : Asked} {within : List ℕ → Type 0} {Plan : List ℕ → List ℕ → Type 0} {plan scratch middle plan' scratch' : List ℕ}
    {reply : Reply} → Sound further a → Framed (scratch_need a.N a.Q) scratch middle → Delivered Plan a.N a.Q plan middle reply plan' scratch' →
    Promise further a within Plan plan scratch reply plan' scratch'
started_given sound f g = planned sound g.settings g.values g.is_plan g.replied g.handed (g.wiped ∙ wiped_same f)

-- a plan that was finished is given
pub finished_given : {P : Problem} {Plan : List ℕ → List ℕ → Type 0} {N Q : ℕ} {plan scratch middle plan' scratch' v : List ℕ} {t : Totals} →
    Framed (scratch_need N Q) scratch middle → Finished P N Q plan middle t plan' scratch' → Plan (chosen Q N middle) v →
    Delivered Plan N Q plan scratch (answered v) plan' scratch'
finished_given {N = N} {Q = Q} {middle = middle} {v = v} f h p = record {
  settings = chosen Q N middle;
  values = v;
  is_plan = p;
  replied = refl;
  handed = h.handed;
  wiped = h.wiped ∙ wiped_same f;
}
