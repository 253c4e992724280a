-- A pass over a table under any law: what each scan's arrays say of the series, and what the last row says of all sequences. The law enters as
-- which pairs it allows, and as nothing else. Assumes nothing.
use mathlib.Core.Path.{◌≡◌, refl, sym, ap, subst, ◌∙◌}
use mathlib.Core.Logic.{◌≢◌}
use mathlib.Core.Bool.{true, false}
use mathlib.Core.List.{List, [], ◌∷◌}
use Prim.Native.Nat.{ℕ, zero, suc, ◌+◌, ◌-◌, ◌*◌, ◌≤◌, ◌<◌}
use native.Mathlib.Omega.{arith}
use lib.Dec.{ltb}
use lib.ListN.{length, get_or, replicate, get_or-replicate}
use borrow.Author.Tests.{ltb-true, ltb-false}
use Rattle.criteria.specs.Choice.{NoneAllowed}
use Rattle.tables.specs.Limits.{forbidden}
use Rattle.tables.specs.Series.{Series, total}
use Rattle.tables.specs.Law.{Law, Follows}
use Rattle.tables.specs.Tables.{Table, scan_start, rate_at, distortion_at, weight_at, series}
use Rattle.tables.proofs.CellLaws.{later_cell, scan_in_run, scan_inside}
use Rattle.tables.proofs.Bounds.{StepsWithin, Bounded, table_small, total_small, legal_at}
use Rattle.checks.specs.Fit.{Fit}
use Rattle.checks.proofs.FitLaws.{fit_legal}
use Rattle.keys.specs.OneKey.{Least}
use Rattle.least.specs.declared.Rule.{Rule}
use Rattle.least.specs.Row.{no_way, price_of, candidate, Ready, BestOf, Light}
use Rattle.least.proofs.PriceLaws.{cell_fits, open_price, price_open}
use Rattle.trellis.specs.Square.{Sixteen, closed_rate, counted_of, closed_cell, counted_cell, CellsFit, CellsOf}
use Rattle.trellis.specs.Stepped.{BestAmong, Stepped}
use Rattle.trellis.specs.Choices.{choice, ChoiceStored, walk, chosen}
use Rattle.trellis.specs.Made.{SquareOf, FirstRow, rate_made, distortion_made}
use Rattle.trellis.specs.Pass.{under, pass_problem, weighed}
use Rattle.trellis.proofs.ClosedLaws.{open_rate, open_counted, closed_open, closed_legal, counted_small}
use Rattle.trellis.proofs.StepLaws.{all_best, best_of_same}
use Rattle.trellis.proofs.Onward.{LeastOn}
use Rattle.trellis.proofs.Rows.{Row, BestChoice, Below, row_end, row_step, row_frame}

-- a square of zeros
pub sixteen_zero : Sixteen (replicate 16 (replicate 16 0))
sixteen_zero = (refl, λ p h. ap length (get_or-replicate 16 p (replicate 16 0) [] h) ∙ refl)

-- what may follow at a later scan is what the law allows
pub follows_later : (law : Law) (i p q : ℕ) → 0 < i → law p q → Follows law i p q
follows_later law zero p q h l = absurd (omega arith)
follows_later law (suc i) p q h l = l

pub later_follows : (law : Law) (i p q : ℕ) → 0 < i → Follows law i p q → law p q
later_follows law zero p q h l = absurd (omega arith)
later_follows law (suc i) p q h l = l

-- a later scan starts after scan 0's row and the squares between
pub later_start : (Q i : ℕ) → 0 < i → scan_start Q i ≡ Q + (i - 1) * (Q * Q)
later_start Q zero h = absurd (omega arith)
later_start Q (suc i) h = let e : suc i - 1 ≡ i = omega arith in rw e refl

square_ends : (Q i : ℕ) → 0 < i → scan_start Q i + Q * Q ≡ scan_start Q (suc i)
square_ends Q zero h = absurd (omega arith)
square_ends Q (suc i) h = omega arith

-- the cells of a scan
module _ {t : Table} {i weight from : ℕ} {rates distortions : List ℕ} (of : CellsOf t i weight from rates distortions) where
  -- they fit: they are legal with its weight
  module _ {room : ℕ} (fit : Fit t.N t.Q t.rates t.distortions t.weights room) where
    cells_fit : (n : ℕ) → i < t.N → scan_start t.Q i + n ≡ scan_start t.Q (suc i) → CellsFit weight from n rates distortions
    cells_fit n h g =
        let s = scan_inside t.N t.Q i h in
        rw (of.weighs, of.starts, of.rates_are, of.distortions_are) (record {
          in_rates = omega (arith, s.1, fit.rates_long);
          in_distortions = omega (arith, s.1, fit.distortions_long);
          legal = λ q l. rw (scan_in_run t.Q i (scan_start t.Q i + q) (omega arith) (omega arith)) at (fit.legal (scan_start t.Q i + q) (omega (arith, s.1, fit.rates_long))).1;
        })

    pub square_fits : 0 < i → i < t.N → CellsFit weight from (t.Q * t.Q) rates distortions
    square_fits h g = cells_fit (t.Q * t.Q) g (square_ends t.Q i h)

    pub first_fits : i ≡ 0 → CellsFit weight from t.Q rates distortions
    first_fits e = cells_fit t.Q (omega (arith, fit.some_scans)) (rw e (omega arith))

  -- copied, they are what a pass makes of them
  module _ (rule : Rule) where
    pub square_rates : (square : List (List ℕ)) → 0 < i → ((p : ℕ) → p < t.Q → (q : ℕ) → q < t.Q → get_or (get_or square p []) q 0
        ≡ closed_cell rule.ceiling rates distortions (from + p * t.Q + q)) → SquareOf t.Q i (rate_made t rule) square
    square_rates square h w = rw (of.rates_are, of.distortions_are, of.starts, later_start t.Q i h) at w

    pub square_counts : (square : List (List ℕ)) → 0 < i → ((p : ℕ) → p < t.Q → (q : ℕ) → q < t.Q → get_or (get_or square p []) q 0
        ≡ counted_cell weight rule.ceiling rates distortions (from + p * t.Q + q)) → SquareOf t.Q i (distortion_made t rule i) square
    square_counts square h w = rw (of.weighs, of.rates_are, of.distortions_are, of.starts, later_start t.Q i h) at w

    pub row_rates : (row : List ℕ) → i ≡ 0 → ((q : ℕ) → q < t.Q → get_or row q 0 ≡ closed_cell rule.ceiling rates distortions (from + q)) →
        FirstRow t.Q (rate_made t rule) row
    row_rates row e w = rw (of.rates_are, of.distortions_are, of.starts, e) at w

    pub row_counts : (row : List ℕ) → i ≡ 0 → ((q : ℕ) → q < t.Q → get_or row q 0 ≡ counted_cell weight rule.ceiling rates distortions (from + q)) →
        FirstRow t.Q (distortion_made t rule 0) row
    row_counts row e w = rw (of.weighs, of.rates_are, of.distortions_are, of.starts, e) at w

module _ (t : Table) (rule : Rule) where
  -- the steps that a pass looks at, and what each costs it
  abbrev pub steps : Series
  steps = under rule.ceiling (series t)

  abbrev pub step_cost : ℕ → ℕ → ℕ → ℕ
  step_cost i p q = rule.a * (series t).distortion i p q + rule.b * (series t).rate i p q

  -- the cost of a sequence is its weight
  pub cost_total : (i p : ℕ) (s : List ℕ) →
      total step_cost i p s ≡ rule.a * total (series t).distortion i p s + rule.b * total (series t).rate i p s
  cost_total i p [] = omega arith
  cost_total i p (q ∷ s) = omega (arith, cost_total (suc i) q s)

  -- what a choice costs, as the pass prices it
  abbrev pub closed_at : ℕ → ℕ → ℕ → ℕ
  closed_at i p q = closed_rate rule.ceiling ((series t).rate i p q) ((series t).height i p q)

  abbrev pub counted_at : ℕ → ℕ → ℕ → ℕ
  counted_at i p q = counted_of (weight_at t i) rule.ceiling ((series t).rate i p q) ((series t).height i p q)

  abbrev pub priced_at : ℕ → ℕ → ℕ → ℕ
  priced_at i p q = price_of rule (closed_at i p q) (counted_at i p q)

  open_at : (i p q : ℕ) → (series t).rate i p q ≢ forbidden → (series t).height i p q ≤ rule.ceiling → priced_at i p q ≡ step_cost i p q
  open_at i p q n h =
      let e = open_rate rule.ceiling ((series t).rate i p q) ((series t).height i p q) n h in
      rw (open_counted rule.ceiling ((series t).rate i p q) ((series t).height i p q) (weight_at t i) n h, e)
      (open_price rule ((series t).rate i p q) ((series t).distortion i p q) n)

  -- the scans after i are done: what lies ahead of each setting of scan i
  pub record Done (i : ℕ) (scratch keys : List ℕ) : Type 0 where
    pub left : ℕ
    pub all : i + suc left ≡ t.N
    pub row : Row steps step_cost t.Q left (suc i) (choice t.Q scratch) (λ p. get_or keys p 0)

  module _ {room : ℕ} (fit : Fit t.N t.Q t.rates t.distortions t.weights room) (light : Light rule) where
    small : Bounded (series t)
    small = table_small t (fit_legal {t = t} fit)

    step_small : StepsWithin steps step_cost 4503595332403200
    step_small i p q h g m = omega (
      arith,
      cell_fits {x = (series t).distortion i p q} light.0 (small.distortion i p q h g m.0),
      cell_fits {x = (series t).rate i p q} light.1 (small.rate i p q h g m.0),
    )

    below : (n i : ℕ) → n ≤ t.N → Below steps step_cost n i
    below n i h p s l o = omega (arith, o.0, fit.scans, total_small steps step_cost 4503595332403200 step_small i p s l o.1)

    -- the best of the candidates that may follow is the best choice
    chosen_by : {i p v q : ℕ} (x k : ℕ → ℕ) → ((r : ℕ) → r < t.Q → x r ≡ priced_at i p r + k r) →
        BestAmong (λ r. (r < t.Q) × Follows t.law i p r) x v q → BestChoice steps step_cost i p k v q
    chosen_by {i} {p} {v} {q} x k is b = record {
      capped = b.capped;
      least = λ r h m. omega (arith, b.least r (h, m.0.1), is_open r h m);
      found = λ e. let w = b.found e in
          let c = closed_open rule.ceiling ((series t).rate i p q) ((series t).height i p q)
          (price_open rule (closed_at i p q) (counted_at i p q) (omega (arith, w.1, is q w.0.0))) in
          (w.0.0, ((c.0, w.0.1), c.1), omega (arith, w.1, is_open q w.0.0 ((c.0, w.0.1), c.1)));
      first = λ e r h m l. omega (arith, b.before e r (h, m.0.1) l, is_open r h m);
    }
      where
        is_open : (r : ℕ) → r < t.Q → steps.may i p r → x r ≡ step_cost i p r + k r
        is_open r h m = is r h
            ∙ ap (λ (y : ℕ). y + k r) (open_at i p r m.0.0 m.1)

    -- a row of a scan's cells, as they are made, is ready for the least of its candidates
    ready : (i p : ℕ) (rs ds keys : List ℕ) → p < t.Q → ((q : ℕ) → q < t.Q → get_or rs q 0 ≡ closed_at i p q) →
        ((q : ℕ) → q < t.Q → get_or ds q 0 ≡ counted_at i p q) → ((q : ℕ) → q < t.Q → get_or keys q 0 ≤ no_way) → Ready t.Q rs ds keys
    ready i p rs ds keys l e g h q m =
        let c = legal_at t (fit_legal {t = t} fit) i p q l m in (
          rw (e q m) (closed_legal rule.ceiling (rate_at t i p q) (distortion_at t i p q) c.0),
          rw (g q m) (counted_small rule.ceiling (rate_at t i p q) (distortion_at t i p q) (weight_at t i) c.1),
          h q m,
        )

    -- .. a row of a later scan's square
    pub ready_later : (i p : ℕ) (rs ds : List (List ℕ)) (keys : List ℕ) → 0 < i → p < t.Q → SquareOf t.Q i (rate_made t rule) rs →
        SquareOf t.Q i (distortion_made t rule i) ds → ((q : ℕ) → q < t.Q → get_or keys q 0 ≤ no_way) → Ready t.Q (get_or rs p []) (get_or ds p []) keys
    ready_later i p rs ds keys later l e g h =
        ready i p (get_or rs p []) (get_or ds p []) keys l (λ q m. rw (← (later_cell t.Q i p q (λ z. omega arith))) (e p l q m))
        (λ q m. rw (← (later_cell t.Q i p q (λ z. omega arith))) (g p l q m)) h

    -- .. and scan 0's row
    pub ready_first : (rs ds keys : List ℕ) → FirstRow t.Q (rate_made t rule) rs → FirstRow t.Q (distortion_made t rule 0) ds →
        ((q : ℕ) → q < t.Q → get_or keys q 0 ≤ no_way) → Ready t.Q rs ds keys
    ready_first rs ds keys e g h =
        ready 0 0 rs ds keys fit.some_settings (λ q m. let z : 0 + q ≡ q = omega arith in rw z at (e q m)) (λ q m. let z : 0 + q ≡ q = omega arith in rw z at (g q m)) h

    -- nothing lies after the last scan
    pub done_none : (i : ℕ) (scratch keys : List ℕ) → i ≡ t.N - 1 → ((p : ℕ) → p < t.Q → get_or keys p 0 ≡ 0) → Done i scratch keys
    done_none i scratch keys e z = record {
      left = 0;
      all = omega (arith, fit.some_scans);
      row = row_end steps step_cost t.Q (suc i) (choice t.Q scratch) (λ p. get_or keys p 0) z;
    }

    -- one scan more
    module _ {i : ℕ} {scratch scratch' keys keys' : List ℕ} {rs ds : List (List ℕ)} (later : 0 < i)
        (rates_at : SquareOf t.Q i (rate_made t rule) rs)
        (distortions_at : SquareOf t.Q i (distortion_made t rule i) ds)
        (stepped : Stepped rule t.law t.Q i rs ds keys keys' scratch scratch') where
      same : (j p : ℕ) → suc i ≤ j → p < t.Q → choice t.Q scratch j p ≡ choice t.Q scratch' j p
      same j p h l = sym (stepped.others j p l (λ e. omega arith))

      row_choice : (p : ℕ) → p < t.Q → BestChoice steps step_cost i p (λ q. get_or keys q 0) (get_or keys' p 0) (choice t.Q scratch' i p)
      row_choice p h = chosen_by (candidate rule (get_or rs p []) (get_or ds p []) keys) (λ q. get_or keys q 0) is
          (best_of_same (λ q m. (m.0, follows_later t.law i p q later m.1)) (λ q m. (m.0, later_follows t.law i p q later m.1)) (stepped.best p h))
        where
          is : (r : ℕ) → r < t.Q → candidate rule (get_or rs p []) (get_or ds p []) keys r ≡ priced_at i p r + get_or keys r 0
          is r l =
              let e = later_cell t.Q i p r (λ z. omega arith) in
              rw (rates_at p h r l, distortions_at p h r l, e)

      pub done_more : {i' : ℕ} → suc i' ≡ i → Done i scratch keys → Done i' scratch' keys'
      done_more {i'} e d = record {
        left = suc d.left;
        all = omega (arith, d.all);
        row = rw e (row_step steps step_cost (omega arith) (below (suc d.left) i (omega (arith, d.all))) (row_frame steps step_cost same d.row) row_choice);
      }

    -- scan 0, and the answer
    module _ {scratch scratch' keys : List ℕ} {v q : ℕ} (rs ds : List ℕ) (d : Done 0 scratch keys) (stored : ChoiceStored t.Q 0 0 q scratch scratch')
        (rates_at : FirstRow t.Q (rate_made t rule) rs)
        (distortions_at : FirstRow t.Q (distortion_made t rule 0) ds)
        (best : BestOf (candidate rule rs ds keys) 0 t.Q v q) where
      first_same : (j p : ℕ) → 1 ≤ j → p < t.Q → choice t.Q scratch j p ≡ choice t.Q scratch' j p
      first_same j p h l = sym (stored.others j p l (λ e z. omega arith))

      first_row : Row steps step_cost 1 (suc d.left) 0 (choice t.Q scratch') (λ p. v)
      first_row =
          row_step steps step_cost fit.some_settings (below (suc d.left) 0 (omega (arith, d.all))) (row_frame steps step_cost first_same d.row) only
        where
          is : (r : ℕ) → r < t.Q → candidate rule rs ds keys r ≡ priced_at 0 0 r + get_or keys r 0
          is r l = let e : 0 + r ≡ r = omega arith in rw (rates_at r l, distortions_at r l, e)

          only : (p : ℕ) → p < 1 → BestChoice steps step_cost 0 p (λ r. get_or keys r 0) v (choice t.Q scratch' 0 p)
          only p h =
              let z : p ≡ 0 = omega arith in
              rw (z, stored.here) (chosen_by (candidate rule rs ds keys) (λ r. get_or keys r 0) is (all_best (candidate rule rs ds keys) best))

      pub pass_none : ltb v no_way ≡ false → NoneAllowed (pass_problem rule.ceiling t)
      pass_none e s a = first_row.dead 0 (omega arith) (omega (arith, ltb-false v no_way e, best.capped)) s (omega (arith, a.0, d.all), a.1)

      pub pass_some : ltb v no_way ≡ true → Least (pass_problem rule.ceiling t).allowed
          (weighed (pass_problem rule.ceiling t) rule) (chosen t.Q t.N scratch')
      pass_some e =
          let n : suc d.left ≡ t.N = omega (arith, d.all) in
          let l = subst (λ (m : ℕ). LeastOn steps step_cost m 0 0 (walk (choice t.Q scratch') m 0 0)) n
          (first_row.live 0 (omega arith) (ltb-true v no_way e)) in
          record { one = l.one; ahead = λ s a. rw (← (cost_total 0 0 (chosen t.Q t.N scratch')), ← (cost_total 0 0 s)) (l.ahead s a) }
