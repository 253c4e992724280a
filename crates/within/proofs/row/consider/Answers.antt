-- `within::row::consider` meets its contract: a setting offers from its rate on.
use Rattle.std.proofs.Common.{◌≡◌, ℕ, suc, ◌+◌, ◌*◌, ◌≤◌, ◌<◌, get_or, arith}
use Rattle.laws.proofs.Lists.{part_inside}
use Rattle.tables.specs.Limits.{most_cell}
use Rattle.tables.proofs.Bounds.{unmarked}
use Rattle.within.proofs.RowLaws.{part_apart, setting_apart, taken_part, taken_nowhere}
use Rattle.within.proofs.row.consider.Goals as goal
use Rattle.within.proofs.row.consider.Goals.{Start}

-- the cell of the setting: its rate, and what counts of its distortion
abbrev rate_of : Start → ℕ
rate_of s = let t = s.args.cells.now in get_or t.rates.now (t.from + s.args.setting) 0

abbrev counted_of : Start → ℕ
counted_of s = let t = s.args.cells.now in t.weight * get_or t.distortions.now (t.from + s.args.setting) 0

-- what lies ahead of the setting
abbrev ahead_of : Start → ℕ → ℕ
ahead_of s k = get_or s.args.totals.now (s.args.place.ahead + (s.args.setting * s.args.width + k)) 0

-- a rate that some budget is enough for is not forbidden, so what the setting costs is small
counts_little : (s : Start) → rate_of s < s.args.width → counted_of s ≤ most_cell
counts_little s h = (unmarked (λ e. omega (arith, e, s.requires.cells.1.0)) (s.requires.cells.1.1.legal s.args.setting (omega arith))).1

pub relax-requires : goal.relax-requires
relax-requires c =
    let a = c.args in
    let f = c.requires.fits in
    let d = part_inside a.width {j = a.setting} {m = suc a.setting} (omega arith) in
    rw c.along.ensures (
      record {
        here_in = omega (arith, f.here_in);
        ahead_in = omega (arith, f.ahead_in, d);
        at_in = omega (arith, f.at_in);
        apart = part_apart (omega arith) (setting_apart (suc a.setting) a.setting (omega arith) f.apart);
        capped = λ k g.
            let e : a.place.ahead + a.setting * a.width + k ≡ a.place.ahead + (a.setting * a.width + k) = omega arith in
            rw e (f.capped (a.setting * a.width + k) (omega (arith, d)));
      },
      counts_little (goal.at.relax-requires c).Start c.if-taken-width.true,
    )

pub returns-then-taken-width : goal.returns-then-taken-width
returns-then-taken-width c =
    let s = (goal.at.returns-then-taken-width c).Start in
    let a = c.args in
    taken_part (rate_of s) (counted_of s) a.setting a.width a.place.here a.place.at (ahead_of s) a.totals.now a.choices.now c.requires.capped
    (λ j. counted_of s + get_or a.totals.now (a.place.ahead + a.setting * a.width + j) 0) c.if-taken-width.true
    (λ j. let e : a.place.ahead + a.setting * a.width + j ≡ a.place.ahead + (a.setting * a.width + j) = omega arith in rw e)
    (rw c.along.ensures at c.relax.ensures)

pub returns-else-taken-width : goal.returns-else-taken-width
returns-else-taken-width c =
    let s = (goal.at.returns-else-taken-width c).Start in
    let a = c.args in
    taken_nowhere (rate_of s) (counted_of s) a.setting a.width a.place.here a.place.at (ahead_of s) a.totals.now a.choices.now c.requires.capped c.if-taken-width.false
