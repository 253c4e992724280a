-- `seek::passes::thrifty_pass` meets its contract: with these weights the key is the rate and then the distortion.
use mathlib.Core.Path.{refl}
use Rattle.tables.specs.Law.{law_of}
use Rattle.checks.proofs.GivenLaws.{fit_in}
use Rattle.seek.proofs.SeekLaws.{thrifty_passed}
use Rattle.seek.proofs.passes.thrifty_pass.Goals as goal

pub returns : goal.returns
returns c = thrifty_passed (law_of c.args.t.now.law) (fit_in c.args.t.now c.requires) refl refl c.pass.ensures
