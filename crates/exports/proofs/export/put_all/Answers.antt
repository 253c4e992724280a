-- `exports::export::put_all` meets its contract: line after line.
use Rattle.std.proofs.Common.{◌≡◌, ℕ, ◌+◌, ◌<◌, length, get_or, refl, ap, ◌∙◌}
use native.Mathlib.Omega.{arith}
use lib.Seq.{sets, take_all}
use Rattle.std.proofs.lemmas.List.{length_push}
use Rattle.std.proofs.lemmas.Slice.Zip.{zip_turn, zip_end}
use Rattle.tables.specs.Tables.{cells}
use Rattle.exports.specs.Export.{cell_line, export_text}
use Rattle.exports.proofs.TextLaws.{at_first, at_next, put_next, at_end}
use Rattle.exports.proofs.ExportLaws.{cell_given}
use Rattle.exports.proofs.export.put_all.Goals as goal
use Rattle.exports.proofs.export.put_all.Goals.{In-Some, Joined-line_of, in-Some-line_of, in_default}

pub loop-rate-init : goal.loop-rate-init
loop-rate-init c = ((tt, tt), (tt, (at_first, refl)))

-- the cell that this turn is at
turn : (c : In-Some) → let n = length c.loop-rate.yielded in (n < length c.args.rates.now) × (n < length c.args.distortions.now)
    × ((d : ℕ) → c.in-Some.rate.now ≡ get_or c.args.rates.now n d) × ((d : ℕ) → c.in-Some.distortion.now ≡ get_or c.args.distortions.now n d)
turn c =
    let a = c.args in
    zip_turn a.rates.now a.distortions.now c.loop-rate.yielded c.into_iter-rate-iterator.result _ c.next.new.self _ (cc) (cc) c.loop-rate.yielded_by (c.in-Some.rate, c.in-Some.distortion) c.in-Some.is
    c.next.ensures.steps

pub line_of-requires : goal.line_of-requires
line_of-requires c = let t = turn (goal.at.line_of-requires c).In-Some in cell_given c.requires.exportable c.loop-rate.invariant.1.1.0 t.0 (t.2 0) (t.3 0)

pub put-at-requires : goal.put-at-requires
put-at-requires c =
    let t = turn (goal.at.put-at-requires c).In-Some in
    let i = c.loop-rate.invariant.1.1 in
    let m = at_next i.0 (omega (arith, c.requires.exportable.rates_long, t.0)) (t.2 0) (t.3 0) in
    omega (arith, m.inside, c.requires.distortions_in_bounds, ap length c.in-Some-line_of.ensures)

pub next-p-requires : goal.next-p-requires
next-p-requires c =
    let t = turn (goal.at.next-p-requires c).In-Some in
    let h = cell_given c.requires.exportable c.loop-rate.invariant.1.1.0 t.0 (t.2 0) (t.3 0) in
    omega (arith, h.0)

-- with the line of this cell
added : (c : Joined-line_of) → let l = cell_line c.loop-rate.p c.in-Some.rate.now c.in-Some.distortion.now in
    (c.match-line_of.at ≡ c.loop-rate.at + length l) × (c.match-line_of.text ≡ sets c.loop-rate.text c.loop-rate.at l)
added c =
    let l = c.loop-rate in
    elim c.match-line_of.branch [
      | in-Some-line_of w ↦
          let e = w.in-Some-line_of.ensures in
          (omega (arith, w.at-is, w.put-at.ensures.0, ap length e), w.text-is ∙ w.put-at.ensures.1 ∙ ap (sets l.text l.at) e)
      | in_default w ↦ let e = w.in_default.ensures in (omega (arith, w.at-is, ap length e), w.text-is ∙ ap (sets l.text l.at) e)
    ]

pub loop-rate-preserved : goal.loop-rate-preserved
loop-rate-preserved c =
    let t = turn (goal.at.loop-rate-preserved c).In-Some in
    let e = added (goal.at.loop-rate-preserved c).Joined-line_of in
    let i = c.loop-rate.invariant.1.1 in
    let n = length c.loop-rate.yielded in
    let h : n < cells c.args.scans c.args.settings = omega (arith, c.requires.exportable.rates_long, t.0) in (
      (tt, tt),
      (
        tt,
        rw (c.next-p.ensures, e.0, length_push c.loop-rate.yielded (c.in-Some.rate, c.in-Some.distortion))
            (at_next i.0 h (t.2 0) (t.3 0), put_next i.0 h (t.2 0) (t.3 0) c.args.text.now i.1 e.1),
      ),
    )

pub returns : goal.returns
returns c =
    let x = c.requires.exportable in
    let a = c.args in
    let i = c.loop-rate.invariant.1.1 in
    let n = zip_end a.rates.now a.distortions.now c.loop-rate.yielded c.into_iter-rate-iterator.result _ c.next.new.self _ (cc) (cc) c.loop-rate.yielded_by c.in-None.is c.next.ensures.steps in
    let e = at_end i.0 (omega (arith, x.rates_long, x.distortions_long, n)) in
    i.1 ∙ ap (sets a.text.now 0) (take_all c.loop-rate.at (export_text a.scans a.settings a.rates.now a.distortions.now) (omega arith))
