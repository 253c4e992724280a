-- `best::trace::retrace` meets its contract. The loop's invariant: the settings before scan i are stored, the choices from scan i on lead to the
-- rest of the sequence, and what is left is enough for it.
use mathlib.Core.Path.{◌≡◌, refl, ap, ◌∙◌}
use Prim.Native.Nat.{ℕ, ◌+◌, ◌*◌, ◌≤◌, ◌<◌}
use native.Mathlib.Omega.{arith}
use lib.ListN.{length, get_or}
use Rattle.checks.proofs.GivenLaws.{fit_in}
use Rattle.laws.proofs.Lists.{part_inside}
use Rattle.tables.proofs.CellLaws.{cell_inside}
use Rattle.trellis.proofs.ChoiceLaws.{need_more}
use Rattle.best.specs.Traced.{rate_of, traced}
use Rattle.best.proofs.TraceLaws.{along_none, read_is, setting_below, rate_fits, along_more, along_all}
use Rattle.best.proofs.trace.retrace.Goals as goal
use Rattle.best.proofs.trace.retrace.Goals.{After-from-q, After-number-at, After-store, In-loop-i}

-- the choice of scan i after setting p with b left is one of the choices
place_inside : (c : In-loop-i) →
    let a = c.args in
    let l = c.loop-i in
    (l.p * a.width + l.b < a.t.now.settings * a.width) × (l.i * (a.t.now.settings * a.width) + a.t.now.settings * a.width ≤ a.t.now.scans * (a.t.now.settings * a.width))
place_inside c =
    let a = c.args in
    let l = c.loop-i in (
      omega (arith, part_inside a.width {j = l.p} {m = a.t.now.settings} (l.invariant.1.1.few c.loop-i-test.true), l.invariant.1.1.within),
      part_inside (a.t.now.settings * a.width) {j = l.i} {m = a.t.now.scans} c.loop-i-test.true,
    )

-- what is read there is the setting of scan i
setting_is : (c : After-from-q) →
    let a = c.args in
    c.from-q.result ≡ get_or (traced a.t.now.scans a.t.now.settings a.width a.left a.t.now.rates.now a.choices.now) c.loop-i.i 0
setting_is c =
    let a = c.args in
    let l = c.loop-i in
    let e = c.from-q.ensures in
    (rw l.invariant.1.0 at e) ∙ read_is a.t.now.scans a.t.now.settings a.width a.left a.t.now.rates.now a.choices.now c.requires.followable c.loop-i-test.true l.invariant.1.1 (omega (arith, c.requires.room.1.0))

pub overflow_mul-size : goal.overflow_mul-size
overflow_mul-size c =
    omega (arith, part_inside (c.args.t.now.settings * c.args.width) {j = 0} {m = c.args.t.now.scans} (fit_in c.args.t.now c.requires.room.0).some_scans, c.requires.width_in_bounds)

pub loop-i-init : goal.loop-i-init
loop-i-init c =
    let a = c.args in
    (omega arith, (refl, along_none a.t.now.scans a.t.now.settings a.width a.left a.t.now.rates.now a.choices.now c.requires.followable (fit_in c.args.t.now c.requires.room.0).some_settings c.requires.room.1.0))

pub overflow_mul-i : goal.overflow_mul-i
overflow_mul-i c = let i = place_inside (goal.at.overflow_mul-i c).In-loop-i in let e = c.loop-i.invariant.1.0 in omega (arith, i.0, i.1, ap (λ (x : ℕ). c.loop-i.i * x) e, c.requires.width_in_bounds)

pub overflow_mul-p : goal.overflow_mul-p
overflow_mul-p c = let i = place_inside (goal.at.overflow_mul-p c).In-loop-i in let e = c.loop-i.invariant.1.0 in omega (arith, i.0, i.1, ap (λ (x : ℕ). c.loop-i.i * x) e, c.requires.width_in_bounds)

pub overflow_add-p : goal.overflow_add-p
overflow_add-p c = let i = place_inside (goal.at.overflow_add-p c).In-loop-i in let e = c.loop-i.invariant.1.0 in omega (arith, i.0, i.1, ap (λ (x : ℕ). c.loop-i.i * x) e, c.requires.width_in_bounds)

pub overflow_add-i : goal.overflow_add-i
overflow_add-i c = let i = place_inside (goal.at.overflow_add-i c).In-loop-i in let e = c.loop-i.invariant.1.0 in omega (arith, i.0, i.1, ap (λ (x : ℕ). c.loop-i.i * x) e, c.requires.width_in_bounds)

pub bounds-choices-i : goal.bounds-choices-i
bounds-choices-i c =
    let i = place_inside (goal.at.bounds-choices-i c).In-loop-i in
    let l = c.loop-i in
    omega (arith, i.0, i.1, ap (λ (x : ℕ). l.i * x) l.invariant.1.0, c.requires.width_in_bounds, l.invariant.1.1.long)

pub number-at-requires : goal.number-at-requires
number-at-requires c =
    let a = c.args in
    let l = c.loop-i in record {
      settings_le_most_settings = ((fit_in c.args.t.now c.requires.room.0).settings, omega (arith, c.loop-i-test.true, (fit_in c.args.t.now c.requires.room.0).scans));
      before_lt_settings = (
        l.invariant.1.1.few c.loop-i-test.true,
        rw (setting_is (goal.at.number-at-requires c).After-from-q) (setting_below a.t.now.scans a.t.now.settings a.width a.left a.t.now.rates.now a.choices.now c.requires.followable c.loop-i-test.true l.invariant.1.1),
      );
    }

-- its cell is one of the table's
cell_in : (c : After-number-at) → c.number-at.result < length c.args.t.now.rates.now
cell_in c =
    let a = c.args in
    let l = c.loop-i in
    let q = setting_below a.t.now.scans a.t.now.settings a.width a.left a.t.now.rates.now a.choices.now c.requires.followable c.loop-i-test.true l.invariant.1.1 in
    omega (
      arith,
      c.number-at.ensures,
      cell_inside a.t.now.scans a.t.now.settings l.i l.p c.from-q.result c.loop-i-test.true (l.invariant.1.1.few c.loop-i-test.true) (rw (setting_is (goal.at.After-number-at c).After-from-q) q),
      (fit_in c.args.t.now c.requires.room.0).rates_long,
    )

pub offset_bounds-t-at : goal.offset_bounds-t-at
offset_bounds-t-at c = omega (arith, cell_in (goal.at.offset_bounds-t-at c).After-number-at)

pub bounds-t-at : goal.bounds-t-at
bounds-t-at c = cell_in (goal.at.bounds-t-at c).After-number-at

-- the setting that is stored is below Q
below : (c : After-from-q) → c.from-q.result < c.args.t.now.settings
below c =
    let a = c.args in
    rw (setting_is c) (setting_below a.t.now.scans a.t.now.settings a.width a.left a.t.now.rates.now a.choices.now c.requires.followable c.loop-i-test.true c.loop-i.invariant.1.1)

pub store-requires : goal.store-requires
store-requires c =
    let a = c.args in
    let l = c.loop-i in record {
      settings_le_most_settings = ((fit_in c.args.t.now c.requires.room.0).settings, (omega (arith, c.loop-i-test.true, (fit_in c.args.t.now c.requires.room.0).scans), l.invariant.1.1.few c.loop-i-test.true));
      chosen_bound = (omega (arith, below (goal.at.store-requires c).After-from-q, (fit_in c.args.t.now c.requires.room.0).settings), omega (arith, need_more a.t.now.scans a.t.now.settings l.i c.loop-i-test.true, (fit_in c.args.t.now c.requires.room.0).room, l.invariant.1.1.long));
    }

-- the rate that is taken from what is left
rate_is : (c : After-store) →
    let a = c.args in
    let l = c.loop-i in
    let q = get_or (traced a.t.now.scans a.t.now.settings a.width a.left a.t.now.rates.now a.choices.now) l.i 0 in
    (get_or a.t.now.rates.now c.number-at.result 0 ≡ rate_of a.t.now.settings a.t.now.rates.now l.i l.p q) × (rate_of a.t.now.settings a.t.now.rates.now l.i l.p q ≤ l.b)
rate_is c =
    let a = c.args in
    let l = c.loop-i in (
      rw (c.number-at.ensures, setting_is (goal.at.After-store c).After-from-q) refl,
      rate_fits a.t.now.scans a.t.now.settings a.width a.left a.t.now.rates.now a.choices.now c.requires.followable c.loop-i-test.true l.invariant.1.1,
    )

pub overflow_sub-b : goal.overflow_sub-b
overflow_sub-b c = let r = rate_is (goal.at.overflow_sub-b c).After-store in omega (arith, r.0, r.1)

pub loop-i-preserved : goal.loop-i-preserved
loop-i-preserved c =
    let a = c.args in
    let l = c.loop-i in
    let q = setting_is (goal.at.loop-i-preserved c).After-from-q in
    let r = rate_is (goal.at.loop-i-preserved c).After-store in (
      omega (arith, c.loop-i-test.true),
      (
        l.invariant.1.0,
        rw (q, r.0) (along_more a.t.now.scans a.t.now.settings a.width a.left a.t.now.rates.now a.choices.now c.requires.followable c.loop-i-test.true l.invariant.1.1 (rw q at c.store.ensures)),
      ),
    )

pub shape_of-choices : goal.shape_of-choices
shape_of-choices c = c.loop-i.invariant.1.1.long

pub returns : goal.returns
returns c =
    let a = c.args in
    let l = c.loop-i in
    let e : l.i ≡ a.t.now.scans = omega (arith, c.loop-i-test.false, l.invariant.0) in
    along_all a.t.now.scans a.t.now.settings a.width a.left a.t.now.rates.now a.choices.now c.requires.followable (rw e at l.invariant.1.1)
