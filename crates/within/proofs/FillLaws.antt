-- Scan after scan: what the rows say of the ways on in a table, under any law. Assumes nothing.
use mathlib.Core.Path.{◌≡◌, refl, sym, subst, ◌∙◌}
use mathlib.Core.Bool.{Bool, true, false, cond}
use mathlib.Core.List.{List}
use Prim.Native.Nat.{ℕ, zero, suc, ◌+◌, ◌-◌, ◌*◌, ◌≤◌, ◌<◌}
use native.Mathlib.Nat.{mul-le-mul_right}
use native.Mathlib.Decide.{dec_lt}
use native.Mathlib.Omega.{arith}
use lib.Dec.{ltb}
use lib.ListN.{length}
use borrow.Author.Tests.{ltb-false, le-ltb}
use Rattle.laws.proofs.Lists.{part_inside}
use Rattle.tables.specs.Law.{Follows}
use Rattle.tables.specs.Tables.{Table, series}
use Rattle.tables.proofs.CellLaws.{later_cell}
use Rattle.tables.proofs.Bounds.{Bounded, table_small, total_small}
use Rattle.checks.specs.Fit.{Fit}
use Rattle.checks.proofs.FitLaws.{fit_legal}
use Rattle.trellis.specs.Square.{CellsOf}
use Rattle.trellis.proofs.PassLaws.{follows_later, later_follows, later_start}
use Rattle.within.specs.Ways.{no_way, most_left, Ahead}
use Rattle.within.specs.Rows.{offer, Untouched, AllPut, Apart, below, above, Fits, row_offer, RowMade}
use Rattle.within.specs.Filled.{total_at, choice_at, PickAmong, Scanned, Filled}
use Rattle.within.proofs.WayLaws.{BestWay, Below, ahead_step, ahead_frame}

-- an offer below no_way is of a setting whose rate is not over b, and there it is what the setting costs
offer_open : (rate distortion b : ℕ) (ahead : ℕ → ℕ) → rate ≤ b → offer rate distortion ahead b ≡ distortion + ahead (b - rate)
unfolding offer
offer_open rate distortion b ahead h = rw (le-ltb b rate h) refl

open_offer : (rate distortion b : ℕ) (ahead : ℕ → ℕ) → offer rate distortion ahead b < no_way → rate ≤ b
unfolding offer
open_offer rate distortion b ahead = of (ltb b rate) refl
  where
    of : (t : Bool) → ltb b rate ≡ t → cond t no_way (distortion + ahead (b - rate)) < no_way → rate ≤ b
    of true e h = absurd (omega arith)
    of false e h = ltb-false b rate e

-- a place among the rows of Q settings is one of a setting's w
pub place_of : (Q w k : ℕ) → k < Q * w → (p : ℕ) × (b : ℕ) × (p < Q) × (b < w) × (k ≡ p * w + b)
place_of zero w k h = absurd (omega arith)
place_of (suc Q) w k h = by_order (λ l. place_of Q w k l) (dec_lt k (Q * w))
  where
    by_order : (k < Q * w → (p : ℕ) × (b : ℕ) × (p < Q) × (b < w) × (k ≡ p * w + b)) → Dec (k < Q * w) →
        (p : ℕ) × (b : ℕ) × (p < suc Q) × (b < w) × (k ≡ p * w + b)
    by_order earlier (yes l) = let r = earlier l in (r.0, r.1, omega (arith, r.2), r.3, r.4)
    by_order earlier (no l) = (Q, k - Q * w, omega arith, omega arith, omega arith)

-- fewer places are apart where more are
apart_narrower : {here n m ahead k : ℕ} → n ≤ m → Apart here m ahead k → Apart here n ahead k
apart_narrower h (below g) = below (omega arith)
apart_narrower h (above g) = above (omega arith)

-- the rows of two scans take turns
pub data Turns (size here ahead : ℕ) : Type 0 where
  front : here ≡ 0 → ahead ≡ size → Turns size here ahead
  back : here ≡ size → ahead ≡ 0 → Turns size here ahead

pub turns_other : {size here ahead : ℕ} → Turns size here ahead → Turns size ahead here
turns_other (front h a) = back a h
turns_other (back h a) = front a h

pub turns_apart : {size here ahead : ℕ} → Turns size here ahead → Apart here size ahead size × ((here + size ≤ 2 * size) × (ahead + size ≤ 2 * size))
turns_apart (front h a) = (below (omega arith), (omega arith, omega arith))
turns_apart (back h a) = (above (omega arith), (omega arith, omega arith))

module _ (t : Table) (w : ℕ) where
  -- the scans after i are done: what lies ahead of each setting of scan i stands in the rows from `ahead` on
  pub record Done (i here ahead : ℕ) (totals₀ choices₀ totals choices : List ℕ) : Type 0 where
    pub left : ℕ
    pub all : i + suc left ≡ t.N
    pub rows : Ahead (series t) w t.Q left (suc i) (choice_at t.Q w choices) (total_at w ahead totals)
    pub turns : Turns (t.Q * w) here ahead
    pub totals_long : length totals ≡ length totals₀
    pub choices_long : length choices ≡ length choices₀
    pub totals_rest : Untouched 0 (2 * (t.Q * w)) totals₀ totals
    pub choices_rest : Untouched 0 (t.N * (t.Q * w)) choices₀ choices

  -- the next scan's rows have their places
  pub done_fits : {i here ahead n at : ℕ} {totals₀ choices₀ totals choices : List ℕ} → Done i here ahead totals₀ choices₀ totals choices →
      2 * (t.Q * w) ≤ length totals₀ → n ≤ t.Q * w → at + n ≤ length choices₀ → Fits n (t.Q * w) here ahead at totals choices
  done_fits {ahead = ahead} {totals = totals} d h g l =
      let a = turns_apart d.turns in
      record {
        here_in = omega (arith, a.1.0, d.totals_long);
        ahead_in = omega (arith, a.1.1, d.totals_long);
        at_in = omega (arith, d.choices_long);
        apart = apart_narrower g a.0;
        capped = λ k m. let r = place_of t.Q w k m in rw r.4 (d.rows.capped r.0 r.1 r.2 r.3);
      }

  module _ {room : ℕ} (fit : Fit t.N t.Q t.rates t.distortions t.weights room) (narrow : w ≤ most_left) where
    small : Bounded (series t)
    small = table_small t (fit_legal {t = t} fit)

    below_no_way : (n i : ℕ) → n ≤ t.N → Below (series t) n i
    below_no_way n i h p s l e k =
        omega (arith, fit.scans, mul-le-mul_right {m = length s} {n = 1024} 1048575 (omega (arith, fit.scans)), total_small (series t) (series t).distortion 1048575 small.distortion i p s l k)

    -- the least offer of those that may follow is the best way on
    way_by : {i p b v q : ℕ} (x : ℕ → ℕ) (k : ℕ → ℕ → ℕ) → b < w →
        ((r : ℕ) → r < t.Q → x r ≡ offer ((series t).rate i p r) ((series t).distortion i p r) (k r) b) →
        PickAmong (λ r. (r < t.Q) × Follows t.law i p r) x v q → BestWay (series t) i p b k v q
    way_by {i} {p} {b} {v} {q} x k h is pick = record {
      capped = pick.capped;
      least = λ r g m o. omega (arith, pick.least r (g, m.1), is_open r g o);
      found = λ e.
          let f = pick.found e in
          let o = open_offer ((series t).rate i p q) ((series t).distortion i p q) b (k q) (omega (arith, f.1, is q f.0.0)) in
          (f.0.0, ((λ z. omega (arith, z, narrow), f.0.1), (o, f.1 ∙ is_open q f.0.0 o)));
      first = λ e r g m o l. omega (arith, pick.before e r (g, m.1) l, is_open r g o);
    }
      where
        is_open : (r : ℕ) → r < t.Q → (series t).rate i p r ≤ b → x r ≡ (series t).distortion i p r + k r (b - (series t).rate i p r)
        is_open r g o = is r g ∙ offer_open ((series t).rate i p r) ((series t).distortion i p r) b (k r) o

    -- a scan more
    module _ (ahead : ℕ) {i here weight from : ℕ} {rates distortions : List ℕ} (totals : List ℕ) {choices totals' choices' : List ℕ} (later : 0 < i)
        (cells : CellsOf t i weight from rates distortions)
        (scanned : Scanned t.law (λ p. row_offer weight (from + p * t.Q) w ahead rates distortions totals)
        t.Q w t.Q here (i * (t.Q * w)) totals choices totals' choices') where
      offers : (p b q : ℕ) → row_offer weight (from + p * t.Q) w ahead rates distortions totals b q
          ≡ offer ((series t).rate i p q) ((series t).distortion i p q) (total_at w ahead totals q) b
      offers p b q =
          let e = later_cell t.Q i p q (λ z. omega arith) in
          rw (cells.weighs, cells.starts, cells.rates_are, cells.distortions_are, later_start t.Q i later, e) refl

      follows : {p v q : ℕ} (x : ℕ → ℕ) → PickAmong (λ r. (r < t.Q) × t.law p r) x v q → PickAmong (λ r. (r < t.Q) × Follows t.law i p r) x v q
      follows {p} {v} {q} x a = record {
        capped = a.capped;
        least = λ r m. a.least r (m.0, later_follows t.law i p r later m.1);
        found = λ e. let f = a.found e in ((f.0.0, follows_later t.law i p q later f.0.1), f.1);
        before = λ e r m l. a.before e r (m.0, later_follows t.law i p r later m.1) l;
      }

      -- choices of later scans stand beyond those of scan i
      beyond : (j p b : ℕ) → suc i ≤ j → p < t.Q → b < w → choice_at t.Q w choices j p b ≡ choice_at t.Q w choices' j p b
      beyond j p b h g l = sym (scanned.choices_rest.same (j * (t.Q * w) + (p * w + b))
          (λ x y. omega (arith, mul-le-mul_right {m = suc i} {n = j} (t.Q * w) h)))

      pub done_more : {totals₀ choices₀ : List ℕ} → Done i here ahead totals₀ choices₀ totals choices → {i' : ℕ} → suc i' ≡ i → Done i' ahead here totals₀ choices₀ totals' choices'
      done_more {totals₀} {choices₀} d {i'} e =
          let a = turns_apart d.turns in
          record {
            left = suc d.left;
            all = omega (arith, d.all);
            rows = rw e (ahead_step (series t) (omega arith) (below_no_way (suc d.left) i (omega (arith, d.all)))
                (ahead_frame (series t) beyond (λ p b h g. refl) d.rows)
                (λ p b h g. way_by {i = i} {p = p} {b = b} _ (total_at w ahead totals) g (λ r l. offers p b r) (follows _ (scanned.pick p h b g))));
            turns = turns_other d.turns;
            totals_long = scanned.totals_long ∙ d.totals_long;
            choices_long = scanned.choices_long ∙ d.choices_long;
            totals_rest = record { same = λ k h. scanned.totals_rest.same k (λ x y. h (omega arith) (omega (arith, a.1.0))) ∙ d.totals_rest.same k h };
            choices_rest = record {
              same = λ k h. scanned.choices_rest.same k (λ x y. h (omega arith) (omega (arith, part_inside (t.Q * w) {j = i} {m = t.N} (omega (arith, d.all))))) ∙ d.choices_rest.same k h;
            };
          }

    -- scan 0, and the whole
    module _ {here ahead weight from : ℕ} {rates distortions before totals₀ choices₀ totals choices totals' choices' : List ℕ}
        (cells : CellsOf t 0 weight from rates distortions)
        (put : AllPut 0 (t.Q * w) 0 before totals₀) (d : Done 0 here ahead totals₀ choices₀ totals choices)
        (made : RowMade (row_offer weight from w ahead rates distortions totals) w 0 t.Q here 0 totals choices totals' choices') where
      first_offers : (b q : ℕ) → row_offer weight from w ahead rates distortions totals b q
          ≡ offer ((series t).rate 0 0 q) ((series t).distortion 0 0 q) (total_at w ahead totals q) b
      first_offers b q = let e : 0 + q ≡ q = omega arith in rw (cells.weighs, cells.starts, cells.rates_are, cells.distortions_are, e) refl

      first_beyond : (j p b : ℕ) → 1 ≤ j → p < t.Q → b < w → choice_at t.Q w choices j p b ≡ choice_at t.Q w choices' j p b
      first_beyond j p b h g l = sym (made.choices_rest.same (j * (t.Q * w) + (p * w + b))
          (λ x y. omega (arith, mul-le-mul_right {m = 1} {n = j} (t.Q * w) h, mul-le-mul_right {m = 1} {n = t.Q} w fit.some_settings)))

      first_way : (p b : ℕ) → p < 1 → b < w → BestWay (series t) 0 p b (total_at w ahead totals) (total_at w here totals' p b) (choice_at t.Q w choices' 0 p b)
      first_way p b h g =
          let z : p ≡ 0 = omega arith in
          let e : here + (0 * w + b) ≡ here + b = omega arith in
          let f : 0 * (t.Q * w) + (0 * w + b) ≡ 0 + b = omega arith in
          let a = made.pick b g in
          rw (z, e, f) (way_by {i = 0} {p = 0} {b = b} _ (total_at w ahead totals) g (λ r l. first_offers b r) (record {
            capped = a.capped;
            least = λ r m. a.least r (omega arith) m.0;
            found = λ x. let y = a.found x in ((y.1, tt), y.2);
            before = λ x r m l. a.before x r (omega arith) l;
          }))

      pub filled : here + w ≤ length totals → Filled t w here before choices₀ totals' choices'
      filled inside =
          let a = turns_apart d.turns in
          let q = mul-le-mul_right {m = 1} {n = t.Q} w fit.some_settings in
          let n : suc d.left ≡ t.N = omega (arith, d.all) in
          record {
            ahead = subst (λ (m : ℕ). Ahead (series t) w 1 m 0 (choice_at t.Q w choices') (total_at w here totals')) n (ahead_step (series t) fit.some_settings (below_no_way (suc d.left) 0 (omega (arith, d.all)))
                (ahead_frame (series t) first_beyond (λ p b h g. refl) d.rows) first_way);
            inside = omega (arith, made.totals_long);
            totals_long = made.totals_long ∙ d.totals_long ∙ put.long;
            choices_long = made.choices_long ∙ d.choices_long;
            totals_rest = λ k h. made.totals_rest.same k (λ x y. omega (arith, a.1.0)) ∙ d.totals_rest.same k (λ x y. omega arith) ∙ put.rest.same k (λ x y. omega arith);
            choices_rest = λ k h. made.choices_rest.same k (λ x y. omega (arith, part_inside (t.Q * w) {j = 0} {m = t.N} fit.some_scans)) ∙ d.choices_rest.same k (λ x y. omega arith);
          }
