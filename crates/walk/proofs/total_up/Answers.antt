-- `walk::total_up` meets its contract. The loop's invariant: t has the scans before i, and the choices from scan i on lead to the
-- rest of the sequence.
use mathlib.Core.Path.{◌≡◌, refl, ◌∙◌}
use mathlib.Core.List.{◌∷◌}
use Prim.Native.Nat.{suc, ◌+◌, ◌-◌, ◌*◌, ◌≤◌, ◌<◌, ◌^◌}
use native.Mathlib.Numerals.{add-one}
use native.Mathlib.Nat.{mul-le-mul_right}
use native.Mathlib.Omega.{arith}
use lib.ListN.{length, get_or}
use borrow.Author.Rules.{rules}
use Rattle.tables.specs.Limits.{most_total}
use Rattle.tables.specs.Tables.{cell, series}
use Rattle.checks.specs.Given.{table_in}
use Rattle.checks.proofs.GivenLaws.{fit_in}
use Rattle.tables.proofs.Bounds.{table_small}
use Rattle.trellis.proofs.ChoiceLaws.{need_more}
use Rattle.trellis.specs.Choices.{choice, walk, chosen}
use Rattle.walk.proofs.WalkLaws.{Along, along_none, along_all, along_more, along_small}
use Rattle.tables.proofs.CellLaws.{cell_inside}
use Rattle.checks.proofs.FitLaws.{fit_legal}
use Rattle.walk.proofs.total_up.Goals as goal
use Rattle.walk.proofs.total_up.Goals.{After-from, After-from-cell, After-number-at, After-read-q, After-weighed-counts, In-loop-i}

-- what is left at scan i, its choice first
left_at : (c : In-loop-i) →
    let a = c.args in
    let l = c.loop-i in
    let ch = choice a.t.now.settings a.scratch.now in
    Along (series (table_in a.t.now))
    (chosen a.t.now.settings a.t.now.scans a.scratch.now) l.sums l.i l.p
    (ch l.i l.p ∷ walk ch (a.t.now.scans - suc l.i) (suc l.i) (ch l.i l.p))
left_at c =
    let a = c.args in
    let l = c.loop-i in
    let e : a.t.now.scans - l.i ≡ suc (a.t.now.scans - suc l.i) = omega arith in
    rw e at l.invariant.2

pub loop-i-init : goal.loop-i-init
loop-i-init c =
    let e : c.args.t.now.scans - 0 ≡ c.args.t.now.scans = omega arith in
    (omega arith, (fit_in c.args.t.now c.requires.room).some_settings, rw e (along_none _ _ _ c.requires.fact.1 refl refl refl))

pub read-q-requires : goal.read-q-requires
read-q-requires c =
    let h = c.loop-i-test.true in record {
      settings_le_most_settings = ((fit_in c.args.t.now c.requires.room).settings, (omega (arith, (fit_in c.args.t.now c.requires.room).scans), c.loop-i.invariant.1));
      settings_in_bounds = omega (arith, need_more c.args.t.now.scans c.args.t.now.settings c.loop-i.i h, (fit_in c.args.t.now c.requires.room).room);
    }

-- the choice is a setting
setting : (c : After-read-q) → c.read-q.result < c.args.t.now.settings
setting c = rw c.read-q.ensures.0 (left_at (goal.at.After-read-q c).In-loop-i).kept.0

pub number-at-requires : goal.number-at-requires
number-at-requires c =
    let f = (fit_in c.args.t.now c.requires.room) in
    record {
      settings_le_most_settings = (f.settings, omega (arith, f.scans));
      before_lt_settings = (c.loop-i.invariant.1, setting (goal.at.number-at-requires c).After-read-q);
    }

-- the cell is one of the tables'
inside : (c : After-number-at) →
    let a = c.args in
    (c.number-at.result < length a.t.now.rates.now) × (c.number-at.result < length a.t.now.distortions.now)
inside c =
    let h = cell_inside c.args.t.now.scans c.args.t.now.settings _ _ _ c.loop-i-test.true c.loop-i.invariant.1 (setting (goal.at.After-number-at c).After-read-q) in
    (omega (arith, c.number-at.ensures, (fit_in c.args.t.now c.requires.room).rates_long), omega (arith, c.number-at.ensures, (fit_in c.args.t.now c.requires.room).distortions_long))

pub offset_bounds-t-at : goal.offset_bounds-t-at
offset_bounds-t-at c = let h = (inside (goal.at.offset_bounds-t-at c).After-number-at).0 in search rules

pub bounds-t-at : goal.bounds-t-at
bounds-t-at c = (inside (goal.at.bounds-t-at c).After-number-at).0

-- what is read is the scan's rate
rate_read : (c : After-from) →
    let a = c.args in
    let l = c.loop-i in
    c.from.result.0 ≡ get_or a.t.now.rates.now (cell a.t.now.settings l.i l.p (choice a.t.now.settings a.scratch.now l.i l.p)) 0
rate_read c =
    let e = rw c.read-q.ensures.0 at c.number-at.ensures in
    c.from.ensures ∙ rw e

-- the sums so far are small, and the rate with the scan at i
sums_small : (c : In-loop-i) →
    let a = c.args in
    let l = c.loop-i in
    let k = cell a.t.now.settings l.i l.p (choice a.t.now.settings a.scratch.now l.i l.p) in
    (l.sums.rate.0 + get_or a.t.now.rates.now k 0 < 2 ^ 64) × (l.sums.distortion.0 ≤ most_total)
sums_small c =
    let T = table_in c.args.t.now in
    let h = along_small (table_small T (fit_legal {t = T} (fit_in c.args.t.now c.requires.room))) c.requires.fact (left_at c) in
    (omega (arith, h.0), omega (arith, h.1))

pub add-rate-requires : goal.add-rate-requires
add-rate-requires c = rw (rate_read (goal.at.add-rate-requires c).After-from) (sums_small (goal.at.add-rate-requires c).In-loop-i).0

pub offset_bounds-t-at-in-loop-i : goal.offset_bounds-t-at-in-loop-i
offset_bounds-t-at-in-loop-i c = let h = (inside (goal.at.offset_bounds-t-at-in-loop-i c).After-number-at).1 in search rules

pub bounds-t-at-in-loop-i : goal.bounds-t-at-in-loop-i
bounds-t-at-in-loop-i c = (inside (goal.at.bounds-t-at-in-loop-i c).After-number-at).1

pub bounds-t-i : goal.bounds-t-i
bounds-t-i c = omega (arith, (fit_in c.args.t.now c.requires.room).weights_long)

pub weighed-counts-requires : goal.weighed-counts-requires
weighed-counts-requires c = (omega (arith, c.from-in-loop-i.ensures), omega (arith, c.from-cell.ensures))

-- .. the scan's plain distortion
distortion_read : (c : After-from-cell) →
    let a = c.args in
    let l = c.loop-i in
    c.from-cell.result.0 ≡ get_or a.t.now.distortions.now (cell a.t.now.settings l.i l.p (choice a.t.now.settings a.scratch.now l.i l.p)) 0
distortion_read c =
    let e = rw c.read-q.ensures.0 at c.number-at.ensures in
    c.from-cell.ensures ∙ rw e

-- .. and what counts of it
distortion_weighed : (c : After-weighed-counts) →
    let a = c.args in
    let l = c.loop-i in
    c.weighed-counts.result.0 ≡ get_or a.t.now.weights.now l.i 0 * get_or a.t.now.distortions.now (cell a.t.now.settings l.i l.p (choice a.t.now.settings a.scratch.now l.i l.p)) 0
distortion_weighed c = c.weighed-counts.ensures ∙ rw (c.from-in-loop-i.ensures, distortion_read (goal.at.After-weighed-counts c).After-from-cell) refl

pub add-requires : goal.add-requires
add-requires c =
    let cell = c.from-cell in
    let weight = c.from-in-loop-i in
    omega (
      arith,
      (sums_small (goal.at.add-requires c).In-loop-i).1,
      cell.ensures,
      c.weighed-counts.ensures,
      mul-le-mul_right {m = weight.result} {n = 255} cell.result.0 (omega (arith, weight.ensures, c.type_inv.t)),
    )

pub loop-i-preserved : goal.loop-i-preserved
loop-i-preserved c =
    let e = c.read-q.ensures.0 in
    let r = rate_read (goal.at.loop-i-preserved c).After-from in
    let x = distortion_weighed (goal.at.loop-i-preserved c).After-weighed-counts in
    let y = distortion_read (goal.at.loop-i-preserved c).After-from-cell in
    let a = along_more (left_at (goal.at.loop-i-preserved c).In-loop-i)
    (c.add-rate.ensures ∙ rw r) (c.add.ensures ∙ rw x) (c.max.ensures ∙ rw y) in
    (omega arith, setting (goal.at.loop-i-preserved c).After-read-q, rw (e, add-one) a)

pub returns : goal.returns
returns c =
    let e : c.args.t.now.scans - c.loop-i.i ≡ 0 = omega arith in
    along_all (rw e at c.loop-i.invariant.2)
