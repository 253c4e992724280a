-- `fits::step::last_within` meets its contract, by what stands at each place of the slice.
use Rattle.std.proofs.Common.{arith}
use Rattle.std.proofs.lemmas.Grind.{elements}
use Rattle.fits.proofs.step.last_within.Goals as goal

pub returns : goal.returns
returns c = grind (arith, elements)
