-- `planner::multiplier::multiplier_plan` meets its contract: the checks, and the call where they pass.
use Rattle.checks.specs.Planning.{Sound}
use Rattle.promise.specs.Promise.{MultiplierPromise}
use Rattle.planner.proofs.PromiseLaws.{checked_refused}
use Rattle.std.proofs.lemmas.Result.{err_from_is_err_and}
use Rattle.checks.proofs.GivenLaws.{of_checked, of_lent}
use mathlib.Core.Path.{◌≡◌, ap, ◌∙◌}
use mathlib.Core.Bool.{Bool}
use Rattle.tables.specs.declared.refusal.Refusal.TheVariants as refusal
use Rattle.checks.specs.Checks.{when}
use Rattle.checks.specs.Planning.{fourth_check}
use Rattle.tables.specs.Refusals.{ended}
use Rattle.planner.proofs.multiplier.multiplier_plan.Goals as goal
use Rattle.planner.proofs.multiplier.multiplier_plan.Goals.{After-unless-fourth}

-- the further check of the call is check 4
fourth : (c : After-unless-fourth) → let a = c.args in ended c.unless-fourth.result ≡ fourth_check a.n a.d
fourth c = c.unless-fourth.ensures ∙ ap (λ (b : Bool). when b refusal.Multiplier) c.multiplier_outside.ensures

pub returns-in_err-t : goal.returns-in_err-t
returns-in_err-t c =
    let p = err_from_is_err_and c.from_residual.result c.from_residual.ensures.1 in
    rw (p.1, p.2) (checked_refused (fourth (goal.at.returns-in_err-t c).After-unless-fourth) c.in_err-t.ensures.checked)

pub sound_multiplier-requires : goal.sound_multiplier-requires
sound_multiplier-requires c =
    of_checked (λ q. Sound (fourth_check c.args.n c.args.d) q) c.in_ok-t.ensures.same
    (rw (fourth (goal.at.sound_multiplier-requires c).After-unless-fourth) at c.in_ok-t.ensures.checked)

pub returns : goal.returns
returns c =
    let a = c.args in
    let r = c.sound_multiplier in
    of_lent (λ q. MultiplierPromise q a.n a.d a.plan.now a.scratch.now r.result r.new.plan r.new.scratch) c.in_ok-t.ensures.same r.ensures
