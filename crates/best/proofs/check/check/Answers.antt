-- `best::check::check` meets its contract: the stages in their order.
use mathlib.Core.Path.{◌≡◌, sym, ap, ◌∙◌}
use mathlib.Core.Bool.{Bool}
use mathlib.Core.Option.{none}
use Prim.Native.Nat.{◌≤◌}
use native.Mathlib.Omega.{arith}
use borrow.Author.Tests.{ltb-false}
use Rattle.std.proofs.lemmas.Result.{err_from_is_err_and}
use Rattle.tables.specs.Limits.{most_short_scans, most_short_budget}
use Rattle.tables.specs.declared.refusal.Refusal.TheVariants as refusal
use Rattle.checks.specs.Checks.{when}
use Rattle.checks.specs.Planning.{Asked}
use Rattle.checks.specs.Given.{asked_of}
use Rattle.checks.proofs.CheckLaws.{none_when}
use Rattle.checks.proofs.PlanningLaws.{Fronted, front_refusal, front_same, front_stage, buffer_stage, cells_decide, fronted, sized}
use Rattle.best.specs.Best.{budget_check}
use Rattle.best.proofs.NeedLaws.{scan_small, choices_small}
use Rattle.best.proofs.check.check.Goals as goal
use Rattle.best.proofs.check.check.Goals.{In_ok-front, In_ok-unless, Start}

-- what the call is asked
abbrev asked : Start → Asked
asked c = asked_of c.args.tables.now c.args.plan c.args.choices

-- the first stage has passed, as the checks 1 to 5 do
front_ended : (c : In_ok-front) → none ≡ front_refusal most_short_scans (budget_check c.args.budget) (asked (goal.at.In_ok-front c).Start)
front_ended c =
    let a = asked (goal.at.In_ok-front c).Start in
    front_same most_short_scans a c.in_ok-front.ensures c.no_law.ensures c.unless-nineteenth.ensures

-- so the numbers are small
in_range : (c : In_ok-front) → Fronted most_short_scans (budget_check c.args.budget) (asked (goal.at.In_ok-front c).Start) × (c.args.budget ≤ most_short_budget)
in_range c =
    let f = fronted most_short_scans (budget_check c.args.budget) (asked (goal.at.In_ok-front c).Start) (sym (front_ended c)) in
    (f, ltb-false most_short_budget c.args.budget (none_when _ _ f.further_passed))

pub returns-in_err-front-clause-checked : goal.returns-in_err-front-clause-checked
returns-in_err-front-clause-checked c =
    let p = err_from_is_err_and c.from_residual.result c.from_residual.ensures.1 in
    let a = asked (goal.at.returns-in_err-front-clause-checked c).Start in
    rw (p.1, p.2) (front_stage _ _ _ _ (front_same most_short_scans a c.in_err-front.ensures c.no_law.ensures c.unless-nineteenth.ensures))

pub overflow_add-size : goal.overflow_add-size
overflow_add-size c = let r = in_range (goal.at.overflow_add-size c).In_ok-front in omega (arith, r.1)

pub overflow_mul-size : goal.overflow_mul-size
overflow_mul-size c = let r = in_range (goal.at.overflow_mul-size c).In_ok-front in omega (arith, scan_small r.0.settings r.1)

pub overflow_mul-tables : goal.overflow_mul-tables
overflow_mul-tables c = let r = in_range (goal.at.overflow_mul-tables c).In_ok-front in omega (arith, choices_small r.0.scans r.0.settings r.1)

pub overflow_mul-size-2 : goal.overflow_mul-size-2
overflow_mul-size-2 c = let r = in_range (goal.at.overflow_mul-size-2 c).In_ok-front in omega (arith, scan_small r.0.settings r.1)

pub returns-in_err-unless-clause-checked : goal.returns-in_err-unless-clause-checked
returns-in_err-unless-clause-checked c =
    let p = err_from_is_err_and c.from_residual-in_err-unless.result c.from_residual-in_err-unless.ensures.1 in
    rw (p.1, p.2) (buffer_stage _ _ _ _ (front_ended (goal.at.returns-in_err-unless-clause-checked c).In_ok-front)
    (c.in_err-unless.ensures ∙ ap (λ (b : Bool). when b refusal.Buffer) c.too_short-short.ensures))

pub judged-requires : goal.judged-requires
judged-requires c = sized (asked (goal.at.judged-requires c).Start) (in_range (goal.at.judged-requires c).In_ok-front).0 (omega arith)

pub returns-clause-checked : goal.returns-clause-checked
returns-clause-checked c =
    cells_decide _ _ _ _ (front_ended (goal.at.returns-clause-checked c).In_ok-front)
    (c.in_ok-unless.ensures ∙ ap (λ (b : Bool). when b refusal.Buffer) c.too_short-short.ensures) c.judged.ensures.judged
