-- `within::row::row` meets its contract. The loop's invariant: the row is made of what the settings before q offer.
use Rattle.std.proofs.Common.{◌≡◌, suc, ◌+◌, ◌*◌, get_or, arith}
use native.Mathlib.Nat.{mul-le-mul_right}
use Rattle.laws.proofs.Lists.{part_inside}
use Rattle.within.specs.Rows.{row_offer}
use Rattle.within.proofs.RowLaws.{ahead_same, apart_shorter, offer_same, row_none, row_more, row_from}
use Rattle.within.proofs.row.row.Goals as goal

pub loop-q-init : goal.loop-q-init
loop-q-init c = row_none _ _ _ _ _ _ _ c.put_all.ensures.put

pub consider-requires-clause-fits : goal.consider-requires-clause-fits
consider-requires-clause-fits c =
    let a = c.args in
    let q = c.loop-q.q in
    let f = c.requires.fits in
    let i = c.loop-q.invariant in
    let p = c.put_all.ensures in
    let h = mul-le-mul_right {m = suc q} {n = a.over.end} a.width (omega arith) in
    record {
      here_in = omega (arith, f.here_in, i.totals_long, p.long);
      ahead_in = omega (arith, f.ahead_in, h, i.totals_long, p.long);
      at_in = omega (arith, f.at_in, i.choices_long);
      apart = apart_shorter h f.apart;
      capped = λ k g. omega (arith, ahead_same f.apart i.totals_rest k (omega (arith, h)), ahead_same f.apart p.rest k (omega (arith, h)), f.capped k (omega (arith, h)));
    }

pub consider-requires-clause-capped : goal.consider-requires-clause-capped
consider-requires-clause-capped c = λ j h. (c.loop-q.invariant.pick j h).capped

pub loop-q-preserved : goal.loop-q-preserved
loop-q-preserved c =
    let a = c.args in
    let t = a.cells.now in
    let l = c.loop-q in
    let h = part_inside a.width {j = l.q} {m = a.over.end} (omega arith) in
    row_more (λ b. row_offer t.weight t.from a.width a.place.ahead t.rates.now t.distortions.now l.totals b l.q) (omega arith)
    (λ b g. offer_same (get_or t.rates.now (t.from + l.q) 0) (t.weight * get_or t.distortions.now (t.from + l.q) 0) b
    (λ k m. ahead_same c.requires.fits.apart l.invariant.totals_rest (l.q * a.width + k) (omega (arith, h))))
    c.consider.ensures l.invariant

pub returns : goal.returns
returns c =
    let a = c.args in
    let t = a.cells.now in
    let p = c.put_all.ensures in
    let e : c.loop-q.q ≡ a.over.end = omega arith in
    row_from p
    (λ b q h g. offer_same (get_or t.rates.now (t.from + q) 0) (t.weight * get_or t.distortions.now (t.from + q) 0) b
    (λ k m. ahead_same c.requires.fits.apart p.rest (q * a.width + k) (omega (arith, part_inside a.width {j = q} {m = a.over.end} g))))
    (rw e at c.loop-q.invariant)
