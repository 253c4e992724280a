-- `trellis::choices::store` meets its contract.
use Rattle.std.proofs.Common.{arith}
use Rattle.trellis.proofs.ChoiceLaws.{place_inside, stored_choice}
use Rattle.trellis.proofs.choices.store.Goals as goal

pub bounds-scratch-at : goal.bounds-scratch-at
bounds-scratch-at c = omega (arith, place_inside c.args.settings c.args.scan c.args.before _ c.requires.settings_le_most_settings.1.1 c.requires.chosen_bound.1)

pub returns : goal.returns
returns c =
    let p = c.requires.settings_le_most_settings.1.1 in
    rw c.place-at.ensures
    (stored_choice c.args.settings c.args.scan c.args.before _ _ p (place_inside c.args.settings c.args.scan c.args.before _ p c.requires.chosen_bound.1))
