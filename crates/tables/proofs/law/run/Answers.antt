-- `tables::law::run` meets its contract, a law at a time.
use native.Mathlib.Omega.{arith}
use Rattle.tables.proofs.LawLaws.{any_run, within_two_run, two_coarser_run, no_run}
use Rattle.tables.proofs.law.run.Goals as goal

pub returns-then-law-eq0 : goal.returns-then-law-eq0
returns-then-law-eq0 c = any_run _ _ _ c.if-law-eq0.true

pub returns-in-1 : goal.returns-in-1
returns-in-1 c = within_two_run _ _ _ c.in-1.is c.requires.0 c.saturating_sub-finest.ensures c.min-end.ensures

pub returns-in-2 : goal.returns-in-2
returns-in-2 c = two_coarser_run _ _ _ c.in-2.is c.min-end.ensures

pub returns-in_default : goal.returns-in_default
returns-in_default c = no_run c.args.law _ _ (omega arith)
