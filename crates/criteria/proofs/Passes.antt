-- The plans of document 02, [13]: they end, the last is the average plan, and their count is settled. Assumes nothing.
use mathlib.Core.Path.{◌≡◌, refl, ap}
use mathlib.Core.Logic.{◌≢◌}
use mathlib.Core.List.{List}
use Prim.Native.Nat.{ℕ, zero, suc, ◌+◌, ◌-◌, ◌*◌, ◌/◌, ◌≤◌, ◌<◌}
use native.Mathlib.Nat.{mul-le-mul_left, le_of_mul-le-mul_left}
use native.Mathlib.Decide.{dec_le, dec_lt}
use native.Mathlib.Omega.{arith}
use Rattle.criteria.specs.Fraction.{gcd}
use Rattle.criteria.specs.Choice.{Problem, InBudget, Multiplier, Average, cost}
use Rattle.criteria.specs.Found.{at_zero, tied, Origin, thrifty, planned, Ended}
use Rattle.criteria.specs.Passes.{Slope, Slopes, last, fitting, over, Passes, none_allowed, none_fits, zero_fits, by_slopes}
use Rattle.criteria.proofs.Order.{then_le, then_tie, best_unique}
use Rattle.criteria.proofs.Bound.{cheapest, rate_falls}
use Rattle.criteria.proofs.Reduce.{average_reduced}

module _ (P : Problem) where
  ends_tie : {lo hi t : List ℕ} {n d : ℕ} → Slope P lo hi n d t → cost P n d hi ≡ cost P n d lo
  ends_tie {n = n} {d = d} l = omega (arith, ap (λ (x : ℕ). d * x) l.fall, ap (λ (x : ℕ). n * x) l.rise)

  -- what the search ends with
  pub slopes_end : {B n d : ℕ} {s : List ℕ} {k : ℕ} {lo hi : List ℕ} → Slopes P B n d s lo hi k → P.allowed lo → P.rate lo ≤ B → P.allowed hi → B < P.rate hi → Ended P B n d s
  slopes_end (last {lo} {hi} l e) a f a' f' = record {
    whole = omega (arith, l.rise);
    plan = l.plan;
    fits = omega (arith, then_le (then_tie (l.plan.ahead lo a) (omega arith)));
    certificate = tied hi a' f' (cc (ends_tie l));
  }
  slopes_end (fitting l c h rest) a f a' f' = slopes_end rest l.plan.one h a' f'
  slopes_end (over l c h rest) a f a' f' = slopes_end rest a f l.plan.one h

  pub slopes_average : {B n d k : ℕ} {s lo hi : List ℕ} → Slopes P B n d s lo hi k → P.allowed lo → P.rate lo ≤ B → P.allowed hi → B < P.rate hi →
      Average P B (n / gcd n d) (d / gcd n d) s
  slopes_average {B} {n} {d} w a f a' f' = let e = slopes_end w a f a' f' in average_reduced P n d B e.whole e.plan e.fits e.certificate

  -- a plan has the least distortion of those with no more rate
  pub pareto : (n d : ℕ) {x : List ℕ} → 1 ≤ d → Multiplier P n d x → (t : List ℕ) → P.allowed t → P.rate t ≤ P.rate x → P.distortion x ≤ P.distortion t
  pareto n d k p t a h = le_of_mul-le-mul_left {k = d} (omega (arith, cheapest P n d p t a, mul-le-mul_left n h)) k

  -- so one that costs less has another rate
  differs : (n d : ℕ) (x t : List ℕ) → (P.rate t ≤ P.rate x → P.distortion x ≤ P.distortion t) → cost P n d t < cost P n d x → P.rate x ≡ P.rate t → ⊥
  differs n d x t f c e = omega (arith, mul-le-mul_left d (f (omega arith)), ap (λ (y : ℕ). n * y) e)

  -- a plan at the slope, if it costs less, lies strictly between lo and hi
  pub climbs : {lo hi t : List ℕ} {n d : ℕ} → Origin P lo → P.allowed hi → Slope P lo hi n d t → 1 ≤ d → cost P n d t < cost P n d lo → P.rate lo < P.rate t
  climbs {lo} {hi} {t} {n} {d} (thrifty b) a l k c =
      let r = then_le (b.ahead t l.plan.one) in
      let e : P.rate lo ≢ P.rate t = differs n d lo t (λ h. then_le (then_tie (b.ahead t l.plan.one) h)) c in
      omega arith
  climbs {lo} {hi} {t} {n} {d} (planned n₁ d₁ k₁ p₁) a l k c =
      let h : n * d₁ ≤ n₁ * d = omega (arith, cheapest P n₁ d₁ p₁ hi a, ap (λ (x : ℕ). d₁ * x) l.fall, ap (λ (x : ℕ). n₁ * x) l.rise) in
      let r = rate_falls P n d n₁ d₁ k l.plan p₁ h in
      let e : P.rate lo ≢ P.rate t = differs n d lo t (pareto n₁ d₁ k₁ p₁ t l.plan.one) c in
      omega arith

  pub descends : (n₂ d₂ : ℕ) {lo hi t : List ℕ} {n d : ℕ} → 1 ≤ d₂ → Multiplier P n₂ d₂ hi → P.allowed lo → Slope P lo hi n d t → cost P n d t < cost P n d lo →
      P.rate t < P.rate hi
  descends n₂ d₂ {lo} {hi} {t} {n} {d} k₂ p₂ a l c =
      let h : n₂ * d ≤ n * d₂ = omega (arith, cheapest P n₂ d₂ p₂ lo a, ap (λ (x : ℕ). d₂ * x) l.fall, ap (λ (x : ℕ). n₂ * x) l.rise) in
      let r = rate_falls P n₂ d₂ n d k₂ p₂ l.plan h in
      let e : P.rate hi ≢ P.rate t = differs n d hi t (pareto n₂ d₂ k₂ p₂ t l.plan.one) (omega (arith, ends_tie l)) in
      omega arith

  pub origin_allowed : {x : List ℕ} → Origin P x → P.allowed x
  origin_allowed (thrifty b) = b.one
  origin_allowed (planned n d k p) = p.one

  pub record Outcome (B : ℕ) (lo hi : List ℕ) : Type 0 where
    pub n : ℕ
    pub d : ℕ
    pub k : ℕ
    pub s : List ℕ
    pub walk : Slopes P B n d s lo hi k

  -- the search ends: the rates draw together
  abbrev pub Search : ℕ → ℕ → Type 0
  Search B fuel = (lo hi : List ℕ) → P.rate hi ≤ P.rate lo + fuel → Origin P lo → P.rate lo ≤ B →
      (n₂ d₂ : ℕ) → 1 ≤ d₂ → Multiplier P n₂ d₂ hi → B < P.rate hi → Outcome B lo hi

  module _ (some_plan : (n d : ℕ) → (s : List ℕ) × Multiplier P n d s) where
    again : (B fuel : ℕ) → Search B fuel → Search B (suc fuel)
    again B fuel below lo hi room o f n₂ d₂ k₂ p₂ f₂ = compare (dec_lt (cost P n d t) (cost P n d lo)) (dec_le (P.rate t) B)
      where
        n : ℕ
        n = P.distortion lo - P.distortion hi

        d : ℕ
        d = P.rate hi - P.rate lo

        t : List ℕ
        t = (some_plan n d).0

        l : Slope P lo hi n d t
        l = record { fall = omega (arith, pareto n₂ d₂ k₂ p₂ lo (origin_allowed o) (omega arith)); rise = omega arith; plan = (some_plan n d).1 }

        compare : Dec (cost P n d t < cost P n d lo) → Dec (P.rate t ≤ B) → Outcome B lo hi
        compare (no c) r =
            record { n = n; d = d; k = 1; s = t; walk = last l (omega (arith, cheapest P n d l.plan lo (origin_allowed o))) }
        compare (yes c) (yes r) =
            let w = below t hi (omega (arith, climbs o p₂.one l (omega arith) c)) (planned n d (omega arith) l.plan) r n₂ d₂ k₂ p₂ f₂ in
            record { n = w.n; d = w.d; k = suc w.k; s = w.s; walk = fitting l c r w.walk }
        compare (yes c) (no r) =
            let w = below lo t (omega (arith, descends n₂ d₂ k₂ p₂ (origin_allowed o) l c)) o f n d (omega arith) l.plan (omega arith) in
            record { n = w.n; d = w.d; k = suc w.k; s = w.s; walk = over l c (omega arith) w.walk }

    pub search_ends : (B fuel : ℕ) → Search B fuel
    search_ends B zero lo hi room o f n₂ d₂ k₂ p₂ f₂ = absurd (omega arith)
    search_ends B (suc fuel) lo hi room o f n₂ d₂ k₂ p₂ f₂ = again B fuel (search_ends B fuel) lo hi room o f n₂ d₂ k₂ p₂ f₂

  -- the count of a search is settled
  same_slope : {lo hi t t' : List ℕ} {n d n' d' : ℕ} → Slope P lo hi n d t → Slope P lo hi n' d' t' → (n ≡ n') × (d ≡ d') × (t ≡ t')
  same_slope {n = n} {d = d} {n' = n'} {d' = d'} l l' =
      let e : n ≡ n' = omega (arith, l.fall, l'.fall) in
      let f : d ≡ d' = omega (arith, l.rise, l'.rise) in
      (e, f, best_unique (rw (e, f) at l.plan) l'.plan)

  unlike : {lo hi t t' : List ℕ} {n d n' d' : ℕ} → Slope P lo hi n d t → Slope P lo hi n' d' t' → cost P n d t ≡ cost P n d lo → cost P n' d' t' < cost P n' d' lo → ⊥
  unlike {lo} {n' = n'} {d' = d'} l l' e c =
      let r = same_slope l l' in
      let e' : cost P n' d' _ ≡ cost P n' d' lo = rw (r.0, r.1, r.2) at e in
      omega arith

  pub slopes_unique : {B n d : ℕ} {s : List ℕ} {k n' d' k' : ℕ} {s' lo hi : List ℕ} → Slopes P B n d s lo hi k → Slopes P B n' d' s' lo hi k' → k ≡ k'
  slopes_unique (last l e) (last l' e') = refl
  slopes_unique (last l e) (fitting l' c h r) = absurd (unlike l l' e c)
  slopes_unique (last l e) (over l' c h r) = absurd (unlike l l' e c)
  slopes_unique (fitting l c h r) (last l' e) = absurd (unlike l' l e c)
  slopes_unique (over l c h r) (last l' e) = absurd (unlike l' l e c)
  slopes_unique (fitting l c h r) (fitting l' c' h' r') = ap suc (slopes_unique r (rw (← (same_slope l l').2) at r'))
  slopes_unique (over l c h r) (over l' c' h' r') = ap suc (slopes_unique r (rw (← (same_slope l l').2) at r'))
  slopes_unique (fitting l c h r) (over l' c' h' r') = absurd (omega (arith, ap P.rate (same_slope l l').2))
  slopes_unique (over l c h r) (fitting l' c' h' r') = absurd (omega (arith, ap P.rate (same_slope l l').2))

  pub passes_unique : {B k k' : ℕ} → Passes P B k → Passes P B k' → k ≡ k'
  passes_unique (none_allowed f) (none_allowed f') = refl
  passes_unique (none_allowed f) (none_fits b h) = refl
  passes_unique (none_allowed f) (zero_fits b h p g) = absurd (f _ b.one)
  passes_unique (none_allowed f) (by_slopes b h p g w) = absurd (f _ b.one)
  passes_unique (none_fits b h) (none_allowed f) = refl
  passes_unique (none_fits b h) (none_fits b' h') = refl
  passes_unique (none_fits b h) (zero_fits b' h' p g) = absurd (omega (arith, ap P.rate (best_unique b b')))
  passes_unique (none_fits b h) (by_slopes b' h' p g w) = absurd (omega (arith, ap P.rate (best_unique b b')))
  passes_unique (zero_fits b h p g) (none_allowed f) = absurd (f _ b.one)
  passes_unique (zero_fits b h p g) (none_fits b' h') = absurd (omega (arith, ap P.rate (best_unique b b')))
  passes_unique (zero_fits b h p g) (zero_fits b' h' p' g') = refl
  passes_unique (zero_fits b h p g) (by_slopes b' h' p' g' w) = absurd (omega (arith, ap P.rate (best_unique p p')))
  passes_unique (by_slopes b h p g w) (none_allowed f) = absurd (f _ b.one)
  passes_unique (by_slopes b h p g w) (none_fits b' h') = absurd (omega (arith, ap P.rate (best_unique b b')))
  passes_unique (by_slopes b h p g w) (zero_fits b' h' p' g') = absurd (omega (arith, ap P.rate (best_unique p p')))
  passes_unique (by_slopes b h p g w) (by_slopes b' h' p' g' w') =
      ap (λ (x : ℕ). 2 + x) (slopes_unique w (rw (← (best_unique b b'), ← (best_unique p p')) at w'))

  -- at zero: the plan of the multiplier zero fits, and is the average plan
  pub zero_average : {B : ℕ} {z : List ℕ} → Multiplier P 0 1 z → P.rate z ≤ B → Average P B 0 1 z
  zero_average p f = average_reduced P 0 1 _ (omega arith) p f (at_zero refl)

  -- where some allowed sequence is within B, the last plan counted is the average plan
  pub passes_average : {B k : ℕ} → Passes P B k → (t : List ℕ) → InBudget P B t → (n : ℕ) × (d : ℕ) × (s : List ℕ) × Average P B n d s
  passes_average (none_allowed f) t w = absurd (f t w.0)
  passes_average (none_fits b h) t w = absurd (omega (arith, then_le (b.ahead t w.0)))
  passes_average (zero_fits {z = z} b h p g) t w = (0, 1, z, zero_average p g)
  passes_average (by_slopes {s = s} {n = n} {d = d} b h p g r) t w =
      (n / gcd n d, d / gcd n d, s, slopes_average r b.one h p.one g)
