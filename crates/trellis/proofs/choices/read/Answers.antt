-- `trellis::choices::read` meets its contract.
use Rattle.std.proofs.Common.{rules, arith}
use Rattle.trellis.specs.Choices.{choice}
use Rattle.trellis.proofs.ChoiceLaws.{place_inside}
use Rattle.trellis.proofs.choices.read.Goals as goal

pub bounds-scratch-at : goal.bounds-scratch-at
bounds-scratch-at c = omega (arith, place_inside c.args.settings c.args.scan c.args.before _ c.requires.settings_le_most_settings.1.1 c.requires.settings_in_bounds)

pub returns : goal.returns
unfolding choice
returns c = search rules
