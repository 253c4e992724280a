-- What a call that has passed its checks knows, and how it goes on from its start. Assumes nothing.
use Rattle.promise.specs.Answers.{PlanAnswer}
use Rattle.std.specs.Prelude.{Ok, Err}
use mathlib.Core.Path.{◌≡◌, refl, sym}
use mathlib.Core.List.{List}
use Prim.Native.Nat.{ℕ, ◌+◌, ◌≤◌}
use native.Mathlib.Omega.{arith}
use lib.ListN.{length, replicate}
use lib.Seq.{sets}
use borrow.Author.Tests.{ltb-false}
use Rattle.laws.proofs.Tests.{neither}
use Rattle.criteria.specs.Choice.{Problem}
use Rattle.tables.specs.declared.refusal.Refusal.{Refusal}
use Rattle.tables.specs.Limits.{most_short_scans, most_short_budget}
use Rattle.tables.specs.Refusals.{Reply, refused}
use Rattle.tables.specs.Tables.{scratch_need}
use Rattle.tables.proofs.RefusalLaws.{answered_or_refused}
use Rattle.checks.specs.Fit.{Fit}
use Rattle.checks.specs.Planning.{Asked, problem_of}
use Rattle.checks.proofs.CheckLaws.{none_when}
use Rattle.checks.proofs.PlanningLaws.{sound_front, sound_short, sound_room}
use Rattle.walk.specs.declared.Totals.{Totals}
use Rattle.walk.specs.Walked.{TotalsOf, total_values}
use Rattle.seek.specs.Sought.{Framed}
use Rattle.seek.specs.Started.{StartedAs, start_reply, fits, none_allowed, none_fits}
use Rattle.seek.proofs.SeekLaws.{framed_on, framed_none}
use Rattle.promise.specs.Promise.{unsound, planned, no_sequence, none_within, totals}
use Rattle.promise.proofs.Moves.{scratch_moves}
use Rattle.within.specs.Rows.{AllPut}
use Rattle.best.specs.Best.{choices_need, totals_need, BestSound, BestPromise}
use Rattle.best.specs.Traced.{BestGiven, BothFramed, SoughtBest}
use Rattle.best.proofs.NeedLaws.{pass_before}
use Rattle.best.proofs.FrameLaws.{framed_wider, cleared_framed, zeros_stored, zeros_put}

-- the numbers and the lengths of a call that has passed
pub record Ready (a : Asked) (B room : ℕ) : Type 0 where
  pub fit : Fit a.N a.Q a.rates a.distortions a.weights a.scratch
  pub short_scans : a.N ≤ most_short_scans
  pub short_budget : B ≤ most_short_budget
  pub plan_room : a.N ≤ a.plan
  pub choices_room : choices_need a.N a.Q B ≤ a.scratch
  pub totals_room : totals_need a.Q B ≤ room

-- a pass needs no more than that
pub need_inside : (N Q B : ℕ) → scratch_need N Q ≤ choices_need N Q B
need_inside N Q B = pass_before N Q (B + 1) (omega arith)

pub ready : {a : Asked} {B room : ℕ} → BestSound a B room → Ready a B room
ready {a} {B} {room} s =
    let b = neither _ _ (sound_short s) in
    let d = neither _ _ b.1 in
    let c : choices_need a.N a.Q B ≤ a.scratch = ltb-false _ _ d.0 in
    record {
      fit = sound_room (omega arith) (omega (arith, need_inside a.N a.Q B)) s;
      short_scans = (sound_front s).scans;
      short_budget = ltb-false most_short_budget B (none_when _ _ (sound_front s).further_passed);
      plan_room = ltb-false _ _ b.0;
      choices_room = c;
      totals_room = ltb-false _ _ d.1;
    }

-- the values of an answer are the sequence's totals
values_are : {P : Problem} {s : List ℕ} {t : Totals} → TotalsOf P s t → total_values t ≡ totals P s
values_are h = rw (h.rate, h.distortion, h.peak)

module _ {a : Asked} {B : ℕ} {plan choices cells : List ℕ} (sound : BestSound a B (length cells)) where
  -- 8 or 9, with nothing past the choices of a pass changed
  refused_start : {choices' : List ℕ} {o : Reply} (r : Refusal) → length choices ≡ a.scratch → StartedAs (problem_of a) a.N a.Q B choices choices' o → o ≡ refused r →
      SoughtBest a B plan choices cells (Err r) plan choices' cells
  refused_start r l (fits t f) e = absurd (answered_or_refused r e)
  refused_start r l (none_allowed n w) e =
      no_sequence sound n (sym e) refl (framed_wider (need_inside a.N a.Q B) (cleared_framed (omega (arith, (ready sound).fit.room)) w), framed_none cells)
  refused_start r l (none_fits n w) e =
      none_within sound n (sym e) refl (framed_wider (need_inside a.N a.Q B) (cleared_framed (omega (arith, (ready sound).fit.room)) w), framed_none cells)

  pub started_refused : {choices' : List ℕ} (r : Refusal) → length choices ≡ a.scratch → StartedAs (problem_of a) a.N a.Q B choices choices' (start_reply (Err r)) →
      SoughtBest a B plan choices cells (Err r) plan choices' cells
  started_refused r l h = refused_start r l h refl

  -- a plan, from where the start left the choices
  pub started_given : {middle choices' cells' plan' : List ℕ} {t : Totals} → Framed (scratch_need a.N a.Q) choices middle →
      BestGiven (problem_of a) a.N B plan t plan' → BothFramed a.N a.Q B middle cells choices' cells' →
      SoughtBest a B plan choices cells (Ok t) plan' choices' cells'
  started_given {t = t} f g h =
      planned sound g.settings (total_values t) (g.is_best, values_are g.totals) refl g.handed (framed_on (framed_wider (need_inside a.N a.Q B) f) h.0, h.1)

-- whatever is sought, nothing past what is needed has changed
pub sought_framed : {a : Asked} {B : ℕ} {plan choices cells plan' choices' cells' : List ℕ} (r : PlanAnswer) → SoughtBest a B plan choices cells r plan' choices' cells' →
    BothFramed a.N a.Q B choices cells choices' cells'
sought_framed r (unsound u e f g) = absurd g
sought_framed r (no_sequence o n e f g) = g
sought_framed r (none_within o n e f g) = g
sought_framed r (planned o t v q e f g) = g

-- .. and so there is room for zeros, with which the promise is kept
module _ (a : Asked) (B : ℕ) {plan choices cells plan' middle cells_middle : List ℕ} (r : PlanAnswer) (long : length choices ≡ a.scratch)
    (sound : BestSound a B (length cells)) (sought : SoughtBest a B plan choices cells r plan' middle cells_middle) where
  pub choices_left : choices_need a.N a.Q B ≤ length middle
  choices_left = omega (arith, (ready sound).choices_room, (sought_framed r sought).0.long)

  pub cells_left : totals_need a.Q B ≤ length cells_middle
  cells_left = omega (arith, (ready sound).totals_room, (sought_framed r sought).1.long)

  pub zeros_kept : {choices' cells' : List ℕ} → choices' ≡ sets middle 0 (replicate (choices_need a.N a.Q B) 0) →
      AllPut 0 (totals_need a.Q B) 0 cells_middle cells' → BestPromise a B plan choices cells r plan' choices' cells'
  zeros_kept e p = scratch_moves (λ x. absurd x) (λ f. (zeros_stored choices_left f.0 e, zeros_put cells_left f.1 p)) sought
