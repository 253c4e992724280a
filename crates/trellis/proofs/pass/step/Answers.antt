-- `trellis::pass::step` meets its contract: each setting before the scan has the best of what the law lets follow it.
use Rattle.std.proofs.Common.{[], ℕ, ◌<◌, length, get_or, length-set, arith}
use Rattle.least.specs.Row.{candidate}
use Rattle.trellis.proofs.StepLaws.{run_best, step_more}
use Rattle.trellis.proofs.pass.step.Goals as goal

pub pick-best-requires-clause-ready : goal.pick-best-requires-clause-ready
pick-best-requires-clause-ready c = λ q h. c.requires.ready c.loop-p.p c.loop-p-test.true q (omega (arith, c.run.ensures.inside))

pub loop-p-preserved : goal.loop-p-preserved
loop-p-preserved c =
    let a = c.args in
    let l = c.loop-p in
    let x : ℕ → ℕ → ℕ = λ r q. candidate a.rule (get_or a.rates r []) (get_or a.distortions r []) a.keys.now q in
    let h : l.p < length l.keys = omega (arith, a.t.now.sized.settings, l.invariant.keys_long) in
    let b = run_best (x l.p) c.run.ensures c.pick-best.ensures.best_of in
    record {
      keys_long = simp length-set l.invariant.keys_long;
      so_far = step_more {x = x} h c.loop-p-test.true b c.store.ensures l.invariant.so_far;
    }

pub returns : goal.returns
returns c =
    let i = c.loop-p.invariant in
    record {
      best = λ p h. i.so_far.best p (omega arith);
      keys_long = i.keys_long;
      long = i.so_far.long;
      others = i.so_far.others;
      beyond = i.so_far.beyond;
    }
