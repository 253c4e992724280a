-- `bench::read_text` meets its contract: what is known of the text so far.
use Rattle.bench.specs.Got.{Got}
use Rattle.bench.proofs.read_text.Given as goal

abbrev pub invariant-loop : goal.invariant-loop
invariant-loop g l = Got l.numbers l.s
