-- Plans exist, in any problem whose allowed sequences are finitely many and decided. Assumes nothing.
use mathlib.Core.Logic.{◌⊎◌, inl, inr}
use mathlib.Core.List.{List}
use Prim.Native.Nat.{ℕ, suc, ◌+◌, ◌-◌, ◌/◌, ◌*◌, ◌≤◌}
use native.Mathlib.Nat.{le_refl, le_trans, lt-div-mul-add, div-lt_iff_lt-mul, le_of_suc-le-suc}
use native.Mathlib.Decide.{dec_le}
use native.Mathlib.Omega.{arith}
use Rattle.criteria.specs.Order.{Best}
use Rattle.criteria.specs.Choice.{Problem, UnderCeiling, InBudget, Ceiling, Multiplier, Average, Minmax, TrueBest, NoneAllowed, Floor, cost}
use Rattle.criteria.specs.Passes.{Thriftiest, Passes, none_allowed, none_fits, zero_fits, by_slopes}
use Rattle.criteria.proofs.Order.{then_le}
use Rattle.criteria.proofs.Finite.{Finite, some_best, some_or_none}
use Rattle.criteria.proofs.Decide.{dec_×}
use Rattle.criteria.specs.Found.{thrifty}
use Rattle.criteria.proofs.Passes.{search_ends, passes_average}

module _ (P : Problem) (fin : Finite P) where
  -- if some sequence is allowed, every multiplier has its plan
  pub some_plan : (t : List ℕ) → P.allowed t → (n d : ℕ) → (s : List ℕ) × Multiplier P n d s
  some_plan t a n d = some_best P fin P.allowed fin.decide (λ t a. a) (cost P n d) P.rate t a

  -- .. and there is a least-rate plan
  pub some_thriftiest : (t : List ℕ) → P.allowed t → (s : List ℕ) × Thriftiest P s
  some_thriftiest t a = some_best P fin P.allowed fin.decide (λ t a. a) P.rate P.distortion t a

  -- if some allowed sequence is within X, there is the ceiling plan
  pub some_ceiling : (X : ℕ) (t : List ℕ) → UnderCeiling P X t → (s : List ℕ) × Ceiling P X s
  some_ceiling X t w =
      some_best P fin (UnderCeiling P X) (λ u. dec_× (fin.decide u) (dec_le (P.peak u) X)) (λ u w. w.0) P.rate P.distortion t w

  -- if some allowed sequence is within B, there is the true best
  pub some_true_best : (B : ℕ) (t : List ℕ) → InBudget P B t → (s : List ℕ) × TrueBest P B s
  some_true_best B t w =
      some_best P fin (InBudget P B) (λ u. dec_× (fin.decide u) (dec_le (P.rate u) B)) (λ u w. w.0) P.distortion P.rate t w

  -- every budget has its count of plans ([13])
  pub some_passes : (B : ℕ) → (k : ℕ) × Passes P B k
  some_passes B = at_least (some_or_none P fin)
    where
      at_zero : (lo z : List ℕ) → Thriftiest P lo → P.rate lo ≤ B → Multiplier P 0 1 z → Dec (P.rate z ≤ B) → (k : ℕ) × Passes P B k
      at_zero lo z b f p (yes g) = (2, zero_fits b f p g)
      at_zero lo z b f p (no g) =
          let w = search_ends P (some_plan lo b.one) B (P.rate z) lo z (omega arith) (thrifty b) f 0 1 (omega arith) p (omega arith) in
          (2 + w.k, by_slopes b f p (omega arith) w.walk)

      from : (lo : List ℕ) → Thriftiest P lo → Dec (P.rate lo ≤ B) → (k : ℕ) × Passes P B k
      from lo b (no g) = (1, none_fits b (omega arith))
      from lo b (yes g) = let z = some_plan lo b.one 0 1 in at_zero lo z.0 b g z.1 (dec_le (P.rate z.0) B)

      at_least : ((t : List ℕ) × P.allowed t) ⊎ NoneAllowed P → (k : ℕ) × Passes P B k
      at_least (inl a) = let lo = some_thriftiest a.0 a.1 in from lo.0 lo.1 (dec_le (P.rate lo.0) B)
      at_least (inr f) = (1, none_allowed f)

  -- if some allowed sequence is within B, there is the average plan: the last of those that are counted
  pub some_average : (B : ℕ) (t : List ℕ) → InBudget P B t → (n : ℕ) × (d : ℕ) × (s : List ℕ) × Average P B n d s
  some_average B t w = passes_average P (some_passes B).1 t w

  -- .. and the minmax plan: its ceiling is the least peak within B
  pub some_minmax : (B : ℕ) (t : List ℕ) → InBudget P B t → (X : ℕ) × (s : List ℕ) × Minmax P B X s
  some_minmax B t w = (
    X,
    c.0,
    record {
      some_fits = (b.0, (b.1.one.0, le_refl X), b.1.one.1);
      least = λ Y u w f. le_trans (then_le (b.1.ahead u (w.0, f))) w.1;
      plan = c.1;
    },
  )
    where
      b : (s : List ℕ) × Best (InBudget P B) P.peak P.rate s
      b = some_best P fin (InBudget P B) (λ u. dec_× (fin.decide u) (dec_le (P.rate u) B)) (λ u c. c.0) P.peak P.rate t w

      X : ℕ
      X = P.peak b.0

      c : (s : List ℕ) × Ceiling P X s
      c = some_ceiling X b.0 (b.1.one.0, le_refl X)

-- the floor, computed: d D + n R - n B over d, rounded up
pub floor_value : (n d B D R : ℕ) → 1 ≤ d → Floor n d B D R ((d * D + n * R - n * B + (d - 1)) / d)
floor_value n d B D R h = record {
  holds = omega (arith, lt-div-mul-add {a = E} {b = d} h);
  least = λ G g. le_of_suc-le-suc ((div-lt_iff_lt-mul {k = d} {x = E} {y = suc G} h).1 (omega arith));
}
  where
    E : ℕ
    E = d * D + n * R - n * B + (d - 1)
