-- `seek::start::start` meets its contract: nothing fits where the least-rate plan does not.
use Rattle.tables.specs.Law.{law_of}
use Rattle.checks.proofs.GivenLaws.{fit_in}
use Rattle.seek.specs.Started.{fits, none_allowed, none_fits}
use Rattle.seek.proofs.SeekLaws.{wipe_fits, fit_framed, room_framed, wiped_same, open_under, nothing_fits, thrifty_totals}
use mathlib.Core.Path.{◌∙◌}
use Rattle.seek.proofs.start.start.Goals as goal

pub wipe-requires : goal.wipe-requires
wipe-requires c = wipe_fits (fit_framed (fit_in c.args.t.now c.requires) c.thrifty_pass.ensures.framed)

pub returns-then-not-thrifty_pass : goal.returns-then-not-thrifty_pass
returns-then-not-thrifty_pass c =
    let p = c.thrifty_pass.ensures in
    none_allowed (λ t a. p.none c.if-not-thrifty_pass.true t (open_under (law_of c.args.t.now.law) (fit_in c.args.t.now c.requires) t a)) (c.wipe.ensures ∙ wiped_same p.framed)

pub total_up-totals-requires : goal.total_up-totals-requires
total_up-totals-requires c =
    let p = c.thrifty_pass.ensures in
    record {
      room = room_framed c.requires p.framed;
      fact = (p.some c.if-not-thrifty_pass.false).one.0;
    }

pub wipe-requires-then-budget-totals : goal.wipe-requires-then-budget-totals
wipe-requires-then-budget-totals c = wipe_fits (fit_framed (fit_in c.args.t.now c.requires) c.thrifty_pass.ensures.framed)

pub returns-then-budget-totals : goal.returns-then-budget-totals
returns-then-budget-totals c =
    let p = c.thrifty_pass.ensures in
    let found = c.if-not-thrifty_pass.false in
    none_fits (nothing_fits (law_of c.args.t.now.law) (fit_in c.args.t.now c.requires) p found c.total_up-totals.ensures.rate c.if-budget-totals.true) (c.wipe-then-budget-totals.ensures ∙ wiped_same p.framed)

pub returns : goal.returns
returns c =
    let p = c.thrifty_pass.ensures in
    let found = c.if-not-thrifty_pass.false in
    fits (thrifty_totals (law_of c.args.t.now.law) (fit_in c.args.t.now c.requires) p found c.total_up-totals.ensures c.if-budget-totals.false) p.framed
