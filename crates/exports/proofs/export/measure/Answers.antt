-- `exports::export::measure` meets its contract: line after line.
use Rattle.std.proofs.Common.{◌≡◌, ℕ, ◌+◌, ◌<◌, length, get_or, ap}
use native.Mathlib.Omega.{arith}
use Rattle.std.proofs.lemmas.List.{length_push}
use Rattle.std.proofs.lemmas.Slice.Zip.{zip_turn, zip_end}
use Rattle.tables.proofs.CellLaws.{cells_small}
use Rattle.exports.specs.Export.{cell_line}
use Rattle.exports.proofs.TextLaws.{at_first, at_next, at_end}
use Rattle.exports.proofs.ExportLaws.{export_short, cell_given}
use Rattle.exports.proofs.export.measure.Goals as goal
use Rattle.exports.proofs.export.measure.Goals.{In-Some, Joined-line_of, in-Some-line_of, in_default}

pub loop-rate-init : goal.loop-rate-init
loop-rate-init c = ((tt, tt), (tt, at_first))

-- the cell that this turn is at
turn : (c : In-Some) → let n = length c.loop-rate.yielded in (n < length c.args.rates.now) × (n < length c.args.distortions.now)
    × ((d : ℕ) → c.in-Some.rate.now ≡ get_or c.args.rates.now n d) × ((d : ℕ) → c.in-Some.distortion.now ≡ get_or c.args.distortions.now n d)
turn c =
    let a = c.args in
    zip_turn a.rates.now a.distortions.now c.loop-rate.yielded c.into_iter-rate-iterator.result _ c.next.new.self _ (cc) (cc) c.loop-rate.yielded_by (c.in-Some.rate, c.in-Some.distortion) c.in-Some.is
    c.next.ensures.steps

pub line_of-requires : goal.line_of-requires
line_of-requires c = let t = turn (goal.at.line_of-requires c).In-Some in cell_given c.requires c.loop-rate.invariant.1.1 t.0 (t.2 0) (t.3 0)

pub overflow_add-total : goal.overflow_add-total
overflow_add-total c =
    let x = c.requires in
    let t = turn (goal.at.overflow_add-total c).In-Some in
    let m = at_next c.loop-rate.invariant.1.1 (omega (arith, x.rates_long, t.0)) (t.2 0) (t.3 0) in
    omega (arith, m.inside, export_short x, cells_small x.scans x.settings, ap length c.in-Some-line_of.ensures, c.len-total.ensures.0)

pub next-p-requires : goal.next-p-requires
next-p-requires c =
    let t = turn (goal.at.next-p-requires c).In-Some in
    let h = cell_given c.requires c.loop-rate.invariant.1.1 t.0 (t.2 0) (t.3 0) in
    omega (arith, h.0)

-- with the line of this cell
added : (c : Joined-line_of) → c.match-line_of.total ≡ c.loop-rate.total + length (cell_line c.loop-rate.p c.in-Some.rate.now c.in-Some.distortion.now)
added c = elim c.match-line_of.branch [
  | in-Some-line_of w ↦ omega (arith, w.total-is, w.len-total.ensures.0, ap length w.in-Some-line_of.ensures)
  | in_default w ↦ omega (arith, w.total-is, ap length w.in_default.ensures)
]

pub loop-rate-preserved : goal.loop-rate-preserved
loop-rate-preserved c =
    let t = turn (goal.at.loop-rate-preserved c).In-Some in
    let e = added (goal.at.loop-rate-preserved c).Joined-line_of in
    ((tt, tt), (tt, rw (c.next-p.ensures, e, length_push c.loop-rate.yielded (c.in-Some.rate, c.in-Some.distortion)) (at_next c.loop-rate.invariant.1.1 (omega (arith, c.requires.rates_long, t.0)) (t.2 0) (t.3 0))))

pub returns : goal.returns
returns c =
    let x = c.requires in
    let a = c.args in
    let n = zip_end a.rates.now a.distortions.now c.loop-rate.yielded c.into_iter-rate-iterator.result _ c.next.new.self _ (cc) (cc) c.loop-rate.yielded_by c.in-None.is c.next.ensures.steps in
    let e = at_end c.loop-rate.invariant.1.1 (omega (arith, x.rates_long, x.distortions_long, n)) in
    (e, omega (arith, export_short x))
