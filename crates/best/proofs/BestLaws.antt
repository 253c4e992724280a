-- From the running totals to the true best. Assumes nothing.
use mathlib.Core.Path.{◌≡◌, sym, ap, ◌∙◌}
use mathlib.Core.Logic.{◌⊎◌, inl, inr}
use mathlib.Core.List.{List}
use Prim.Native.Nat.{ℕ, ◌+◌, ◌-◌, ◌*◌, ◌≤◌, ◌<◌}
use native.Mathlib.Nat.{le_refl, eq-or-lt_of_le}
use native.Mathlib.Decide.{dec_lt}
use native.Mathlib.Omega.{arith}
use lib.ListN.{get_or}
use Rattle.criteria.specs.Order.{Then, lower, tie, First}
use Rattle.criteria.specs.Choice.{Problem, InBudget, TrueBest}
use Rattle.criteria.proofs.Order.{then_le, then_tie}
use Rattle.tables.specs.Tables.{Table, series, planning}
use Rattle.tables.proofs.SeriesLaws.{kept_below}
use Rattle.keys.specs.OneKey.{Least}
use Rattle.within.specs.Ways.{no_way, Way, Ahead}
use Rattle.within.specs.Filled.{total_at, choice_at}
use Rattle.best.specs.Traced.{LeastLeft, traced, Followable}

-- Over any problem: for each budget up to B a number that is the least distortion within it, or no_way where nothing is, and a sequence that is
-- the first of those that have it. Then the sequence of the least budget whose number is B's is the true best at B: that budget is the least
-- rate, and what has the distortion within it has that rate.
module _ (P : Problem) (B : ℕ) (least : ℕ → ℕ) (s : ℕ → List ℕ)
    (none : (b : ℕ) → b ≤ B → least b ≡ no_way → (t : List ℕ) → InBudget P b t → ⊥)
    (capped : (b : ℕ) → b ≤ B → least b ≤ no_way)
    (some : (b : ℕ) → b ≤ B → least b < no_way → Least (InBudget P b) P.distortion (s b))
    (cost : (b : ℕ) → b ≤ B → least b < no_way → least b ≡ P.distortion (s b)) where
  -- a sequence within b shows that b has a number below no_way
  pub alive : (b : ℕ) (t : List ℕ) → b ≤ B → InBudget P b t → least b < no_way
  alive b t h w = by_order (dec_lt (least b) no_way)
    where
      by_order : Dec (least b < no_way) → least b < no_way
      by_order (yes l) = l
      by_order (no l) = absurd (none b h (omega (arith, capped b h)) t w)

  -- the number of b is at most the distortion of what is within b
  at_most : (b : ℕ) (t : List ℕ) → b ≤ B → InBudget P b t → least b ≤ P.distortion t
  at_most b t h w = let l = alive b t h w in omega (arith, cost b h l, then_le ((some b h l).ahead t w))

  module _ (left : ℕ) (inside : left ≤ B) (same : least left ≡ least B) (first : (j : ℕ) → j < left → least j ≡ least B → ⊥) (any : (t : List ℕ) × InBudget P B t) where
    left_alive : least left < no_way
    left_alive = omega (arith, same, alive B any.0 (le_refl B) any.1)

    plan : Least (InBudget P left) P.distortion (s left)
    plan = some left inside left_alive

    -- no rate with the least distortion is below `left`
    not_below : (t : List ℕ) → InBudget P B t → P.distortion t ≡ least B → left ≤ P.rate t
    not_below t w e = by_order (dec_lt (P.rate t) left)
      where
        by_order : Dec (P.rate t < left) → left ≤ P.rate t
        by_order (no l) = omega arith
        by_order (yes l) =
            let j : P.rate t ≤ B = omega (arith, w.1) in
            let o : InBudget P (P.rate t) t = (w.0, le_refl (P.rate t)) in
            let y = alive (P.rate t) t j o in
            let z = some (P.rate t) j y in
            absurd (first (P.rate t) l (omega (
              arith,
              at_most (P.rate t) t j o,
              cost (P.rate t) j y,
              at_most B (s (P.rate t)) (le_refl B) (z.one.0, omega (arith, z.one.1)),
            )))

    pub true_best : TrueBest P B (s left)
    true_best = record { one = (plan.one.0, omega (arith, plan.one.1)); ahead = against }
      where
        against : (t : List ℕ) → InBudget P B t → Then (P.distortion (s left)) (P.distortion t) (Then (P.rate (s left)) (P.rate t) (First (s left) t))
        against t w = by_distortion (eq-or-lt_of_le le)
          where
            le : P.distortion (s left) ≤ P.distortion t
            le = omega (arith, cost left inside left_alive, same, at_most B t (le_refl B) w)

            by_rate : P.distortion (s left) ≡ P.distortion t → left ≤ P.rate t → Dec (P.rate (s left) < P.rate t) → Then (P.rate (s left)) (P.rate t) (First (s left) t)
            by_rate e h (yes l) = lower l
            by_rate e h (no l) =
                let r : P.rate (s left) ≡ P.rate t = omega (arith, plan.one.1) in
                tie r (then_tie (plan.ahead t (w.0, omega (arith, plan.one.1))) (omega arith))

            by_distortion : (P.distortion (s left) ≡ P.distortion t) ⊎ (P.distortion (s left) < P.distortion t) →
                Then (P.distortion (s left)) (P.distortion t) (Then (P.rate (s left)) (P.rate t) (First (s left) t))
            by_distortion (inr l) = lower l
            by_distortion (inl e) = tie e (by_rate e (not_below t w (omega (arith, cost left inside left_alive, same))) (dec_lt (P.rate (s left)) (P.rate t)))

-- The same of a table, from what the program leaves.
module _ (t : Table) (B base left : ℕ) (cells choices : List ℕ)
    (ahead : Ahead (series t) (B + 1) 1 t.N 0 (choice_at t.Q (B + 1) choices) (total_at (B + 1) base cells)) (l : LeastLeft base (B + 1) left cells)
    (any : (u : List ℕ) × InBudget (planning t) B u) where
  abbrev P : Problem
  P = planning t

  abbrev least : ℕ → ℕ
  least b = get_or cells (base + b) 0

  abbrev s : ℕ → List ℕ
  s b = traced t.N t.Q (B + 1) b t.rates choices

  place : (b : ℕ) → base + (0 * (B + 1) + b) ≡ base + b
  place b = omega arith

  within_way : (b : ℕ) (u : List ℕ) → InBudget P b u → Way (series t) t.N 0 0 b u
  within_way b u w = record { long = w.0.0; kept = w.0.1; fits = w.1 }

  way_within : (b : ℕ) (u : List ℕ) → Way (series t) t.N 0 0 b u → InBudget P b u
  way_within b u w = ((w.long, w.kept), w.fits)

  none_at : (b : ℕ) → b ≤ B → least b ≡ no_way → (u : List ℕ) → InBudget P b u → ⊥
  none_at b h e u w = ahead.none 0 b (omega arith) (omega arith) (rw (place b) e) u (within_way b u w)

  capped_at : (b : ℕ) → b ≤ B → least b ≤ no_way
  capped_at b h = rw (place b) at (ahead.capped 0 b (omega arith) (omega arith))

  some_at : (b : ℕ) → b ≤ B → least b < no_way → Least (InBudget P b) P.distortion (s b)
  some_at b h e =
      let f = ahead.some 0 b (omega arith) (omega arith) (rw (place b) e) in
      record { one = way_within b (s b) f.one; ahead = λ u w. f.ahead u (within_way b u w) }

  cost_at : (b : ℕ) → b ≤ B → least b < no_way → least b ≡ P.distortion (s b)
  cost_at b h e = rw (place b) at (ahead.cost 0 b (omega arith) (omega arith) (rw (place b) e))

  last : least (B + 1 - 1) ≡ least B
  last = let e : B + 1 - 1 ≡ B = omega arith in ap least e

  pub best_found : TrueBest P B (s left)
  best_found = true_best P B least s none_at capped_at some_at cost_at left (omega (arith, l.inside)) (l.same ∙ last) (λ j h e. l.first j h (e ∙ sym last)) any

  -- the least budget is enough for it
  left_enough : InBudget P left (s left)
  left_enough =
      (some_at left (omega (arith, l.inside)) (omega (arith, l.same, last, alive P B least s none_at capped_at some_at cost_at B any.0 (le_refl B) any.1))).one

  pub follows : Followable t.Q left t.rates (s left)
  follows = record { settings = kept_below (series t) 0 0 (s left) left_enough.0.1; fits = left_enough.1 }
