-- `seek::passes::multiplier_pass` meets its contract: with these weights the key is the cost and then the rate.
use Rattle.tables.specs.Law.{law_of}
use Rattle.checks.proofs.GivenLaws.{fit_in}
use Rattle.seek.proofs.SeekLaws.{multiplier_passed}
use Rattle.seek.proofs.passes.multiplier_pass.Goals as goal

pub returns : goal.returns
returns c =
    multiplier_passed (law_of c.args.t.now.law) (fit_in c.args.t.now c.requires) c.args.at.n c.args.at.d c.weighing.ensures.0 c.weighing.ensures.1 c.pass.ensures
