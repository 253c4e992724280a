-- `trellis::pass::step` meets its contract: each setting before the scan has the best of what the law lets follow it.
use Rattle.std.proofs.Common.{◌≡◌, [], get_or, length}
use Rattle.tables.specs.Law.{law_of}
use Rattle.least.specs.Row.{candidate}
use Rattle.trellis.proofs.StepLaws.{StepSoFar}
use Rattle.trellis.proofs.pass.step.Given as goal

abbrev pub invariant-loop-p : goal.invariant-loop-p
invariant-loop-p l = record {
  keys_long : length l.keys ≡ 16;
  so_far : StepSoFar (law_of l.t.law) (λ r q. candidate l.rule (get_or l.rates r []) (get_or l.distortions r []) l.ahead q)
      l.t.settings l.scan l.p l.keys l.initial.scratch l.scratch;
}
