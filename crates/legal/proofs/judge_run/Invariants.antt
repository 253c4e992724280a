-- `legal::judge_run` meets its contract. The loop's invariant: what is kept is the lowest illegal cell of those passed, or "no cell".
use Rattle.legal.proofs.RunLaws.{KeptSoFar}
use Rattle.legal.proofs.judge_run.Given as goal

abbrev pub invariant-loop-far : goal.invariant-loop-far
invariant-loop-far l = KeptSoFar (λ k. l.weight) l.rates l.distortions l.from l.far l.lowest
