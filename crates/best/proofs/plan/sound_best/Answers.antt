-- `best::plan::sound_best` meets its contract: what is sought, and then zeros.
use mathlib.Core.Path.{refl}
use native.Mathlib.Omega.{arith}
use lib.ListN.{length}
use Rattle.checks.specs.Planning.{Asked}
use Rattle.checks.specs.Given.{asked_in}
use Rattle.best.proofs.NeedLaws.{scan_small, choices_small}
use Rattle.best.proofs.CallLaws.{ready, choices_left, cells_left, zeros_kept}
use Rattle.best.proofs.plan.sound_best.Goals as goal
use Rattle.best.proofs.plan.sound_best.Goals.{Start}

-- what the call is asked
abbrev asked : Start → Asked
asked s = asked_in s.args.t.now (length s.args.plan.now) (length s.args.choices.now)

pub overflow_add-size : goal.overflow_add-size
overflow_add-size c = omega (arith, (ready c.requires).short_budget)

pub overflow_mul-size : goal.overflow_mul-size
overflow_mul-size c = let r = ready c.requires in omega (arith, scan_small r.fit.settings r.short_budget)

pub overflow_mul-t : goal.overflow_mul-t
overflow_mul-t c = let r = ready c.requires in omega (arith, choices_small r.short_scans r.fit.settings r.short_budget)

pub put_zeros-requires : goal.put_zeros-requires
put_zeros-requires c = omega (arith, choices_left (asked (goal.at.put_zeros-requires c).Start) c.args.budget c.sought-answer.result refl c.requires c.sought-answer.ensures)

pub overflow_mul-size-2 : goal.overflow_mul-size-2
overflow_mul-size-2 c = let r = ready c.requires in omega (arith, scan_small r.fit.settings r.short_budget)

pub put_all-requires : goal.put_all-requires
put_all-requires c = omega (arith, cells_left (asked (goal.at.put_all-requires c).Start) c.args.budget c.sought-answer.result refl c.requires c.sought-answer.ensures)

pub returns : goal.returns
returns c =
    zeros_kept (asked (goal.at.returns c).Start) c.args.budget c.sought-answer.result refl c.requires c.sought-answer.ensures c.put_zeros.ensures c.put_all.ensures
