-- `checks::lent::Tables::check` meets its contract: the stages in their order.
use mathlib.Core.Path.{refl, sym, ap, ◌∙◌}
use mathlib.Core.Bool.{Bool}
use native.Mathlib.Omega.{arith}
use Rattle.std.proofs.lemmas.Result.{err_from_is_err_and}
use Rattle.tables.specs.Limits.{most_scans}
use Rattle.tables.specs.Refusals.{ended}
use Rattle.tables.specs.declared.refusal.Refusal.TheVariants as refusal
use Rattle.checks.specs.Checks.{when}
use Rattle.checks.specs.Planning.{Asked}
use Rattle.checks.specs.Given.{asked_of}
use Rattle.checks.proofs.PlanningLaws.{front_same, front_stage, buffer_stage, cells_decide, fronted, sized}
use Rattle.checks.proofs.lent.Tables.check.Goals as goal
use Rattle.checks.proofs.lent.Tables.check.Goals.{Start}

-- what the call is asked
abbrev asked : Start → Asked
asked c = asked_of c.args.self.now c.args.plan c.args.scratch

pub returns-in_err-front-clause-checked : goal.returns-in_err-front-clause-checked
returns-in_err-front-clause-checked c =
    let p = err_from_is_err_and c.from_residual.result c.from_residual.ensures.1 in
    let a = asked (goal.at.returns-in_err-front-clause-checked c).Start in
    rw (p.1, p.2) (front_stage _ _ _ _ (front_same most_scans a {further = ended c.args.further} c.in_err-front.ensures c.no_law.ensures refl))

pub scratch_need-need-requires : goal.scratch_need-need-requires
scratch_need-need-requires c =
    let a = asked (goal.at.scratch_need-need-requires c).Start in
    let f = fronted most_scans (ended c.args.further) a (sym (front_same most_scans a {further = ended c.args.further} c.in_ok-front.ensures c.no_law.ensures refl)) in
    (f.scans, f.settings)

pub returns-in_err-unless-clause-checked : goal.returns-in_err-unless-clause-checked
returns-in_err-unless-clause-checked c =
    let p = err_from_is_err_and c.from_residual-in_err-unless.result c.from_residual-in_err-unless.ensures.1 in
    let a = asked (goal.at.returns-in_err-unless-clause-checked c).Start in
    rw (p.1, p.2) (buffer_stage _ _ _ _ (front_same most_scans a {further = ended c.args.further} c.in_ok-front.ensures c.no_law.ensures refl)
    (c.in_err-unless.ensures ∙ ap (λ (b : Bool). when b refusal.Buffer) (rw c.scratch_need-need.ensures.0 at c.too_short.ensures)))

pub judged-requires : goal.judged-requires
judged-requires c =
    let a = asked (goal.at.judged-requires c).Start in
    let f = fronted most_scans (ended c.args.further) a (sym (front_same most_scans a {further = ended c.args.further} c.in_ok-front.ensures c.no_law.ensures refl)) in
    sized a f (omega arith)

pub returns-clause-checked : goal.returns-clause-checked
returns-clause-checked c =
    let a = asked (goal.at.returns-clause-checked c).Start in
    cells_decide _ _ _ _ (front_same most_scans a {further = ended c.args.further} c.in_ok-front.ensures c.no_law.ensures refl)
    (c.in_ok-unless.ensures ∙ ap (λ (b : Bool). when b refusal.Buffer) (rw c.scratch_need-need.ensures.0 at c.too_short.ensures))
    c.judged.ensures.judged
