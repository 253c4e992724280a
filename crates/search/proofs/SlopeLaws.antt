-- The slopes of the average call: each plan lies between the two before it, and the last ends them. Assumes nothing.
use mathlib.Core.Path.{◌≡◌, refl, sym, ◌∙◌}
use mathlib.Core.Logic.{inl, inr}
use mathlib.Core.Bool.{Bool, true, false}
use mathlib.Core.List.{List}
use Prim.Native.Nat.{ℕ, ◌+◌, ◌-◌, ◌*◌, ◌≤◌, ◌<◌, ◌^◌}
use native.Mathlib.Omega.{arith}
use lib.Dec.{eqb}
use borrow.Author.Tests.{eqb-true, eqb-false}
use Rattle.criteria.specs.Choice.{Problem, Multiplier, cost}
use Rattle.criteria.specs.Passes.{Slope, last}
use Rattle.criteria.proofs.Bound.{cheapest}
use Rattle.criteria.specs.Found.{planned, Ended}
use Rattle.criteria.proofs.Passes.{slopes_end, pareto, climbs, descends, origin_allowed}
use Rattle.tables.specs.Limits.{most_term, most_total}
use Rattle.walk.specs.declared.Totals.{Totals}
use Rattle.trellis.specs.Choices.{chosen}
use Rattle.walk.specs.Walked.{TotalsOf}
use Rattle.search.specs.declared.slopes.Bracket.{Bracket}
use Rattle.seek.specs.Sought.{MultiplierPass}
use Rattle.search.specs.Search.{Bracketed, SlopeOf, Narrowed}
use Rattle.tables.proofs.Bounds.{cost_small}

-- the totals of a sequence at a multiplier
pub totals_cost : {P : Problem} {s : List ℕ} {t : Totals} (n d : ℕ) → TotalsOf P s t → d * t.distortion.0 + n * t.rate.0 ≡ cost P n d s
totals_cost n d h = rw (h.rate, h.distortion)

module _ {P : Problem} where
  -- a pass at a multiplier finds a plan where some sequence is allowed
  pub pass_finds : {N Q n d : ℕ} {before after : List ℕ} {found : Bool} → MultiplierPass P N Q n d before after found → (t : List ℕ) → P.allowed t →
      Multiplier P n d (chosen Q N after)
  pass_finds {found = true} p t a = p.some refl
  pass_finds {found = false} p t a = absurd (p.none refl t a)

  -- what every bracket knows
  module _ {B : ℕ} {lo hi : Totals} (b : Bracketed P B lo hi) where
    pub lo_allowed : P.allowed b.lo_plan
    lo_allowed = origin_allowed P b.lo_origin

    pub bracket_falls : hi.distortion.0 ≤ lo.distortion.0
    bracket_falls = omega (
      arith,
      b.lo_totals.distortion,
      b.hi_totals.distortion,
      pareto P b.hi_n b.hi_d b.hi_whole b.hi_origin b.lo_plan lo_allowed (omega (arith, b.fits, b.over)),
    )

    pub bracket_rises : lo.rate.0 < hi.rate.0
    bracket_rises = omega (arith, b.lo_totals.rate, b.hi_totals.rate, b.fits, b.over)

    -- the totals of both are small, and so the slope is within the multiplier limits
    pub bracket_small : ((t : List ℕ) → P.allowed t → (P.distortion t ≤ most_total) × (P.rate t ≤ most_total)) → (lo.distortion.0 ≤ most_total) × (hi.rate.0 ≤ most_total)
    bracket_small small =
        let l = small b.lo_plan lo_allowed in
        let h = small b.hi_plan b.hi_origin.one in
        (omega (arith, b.lo_totals.distortion, l.0), omega (arith, b.hi_totals.rate, h.1))

    slope_at : {n d : ℕ} {t : List ℕ} → SlopeOf lo hi n d → Multiplier P n d t → Slope P b.lo_plan b.hi_plan n d t
    slope_at s m = record {
      fall = omega (arith, s.fall, b.lo_totals.distortion, b.hi_totals.distortion);
      rise = omega (arith, s.rise, b.lo_totals.rate, b.hi_totals.rate);
      plan = m;
    }

    -- one that costs what lo does is the last
    pub slope_ends : {n d : ℕ} {t : List ℕ} {u : Totals} {tied : Bool} → SlopeOf lo hi n d → Multiplier P n d t → TotalsOf P t u →
        tied ≡ eqb (d * u.distortion.0 + n * u.rate.0) (d * lo.distortion.0 + n * lo.rate.0) → tied ≡ true → Ended P B n d t
    slope_ends {n} {d} s m h e y =
        slopes_end P (last (slope_at s m) (sym (totals_cost n d h) ∙ eqb-true _ _ (sym e ∙ y) ∙ totals_cost n d b.lo_totals))
        lo_allowed b.fits b.hi_origin.one b.over

    -- one that costs less takes the place of the one on its side, and the two draw together
    module _ {n d : ℕ} {t : List ℕ} {u : Totals} {tied : Bool} (s : SlopeOf lo hi n d) (m : Multiplier P n d t) (h : TotalsOf P t u)
        (e : tied ≡ eqb (d * u.distortion.0 + n * u.rate.0) (d * lo.distortion.0 + n * lo.rate.0)) (no : tied ≡ false) where
      whole : 1 ≤ d
      whole = omega (arith, s.rise, bracket_rises)

      less : cost P n d t < cost P n d b.lo_plan
      less = let f = eqb-false (d * u.distortion.0 + n * u.rate.0) (d * lo.distortion.0 + n * lo.rate.0) (sym e ∙ no) in omega (
        arith,
        totals_cost n d h,
        totals_cost n d b.lo_totals,
        cheapest P n d m b.lo_plan lo_allowed,
      )

      pub narrowed_more : {at r : Bracket} → at.lo ≡ lo → at.hi ≡ hi → Narrowed at u B r →
          Bracketed P B r.lo r.hi × (r.hi.rate.0 - r.lo.rate.0 < hi.rate.0 - lo.rate.0)
      narrowed_more {at} {r} el eh (inl w) = rw (w.1.0, w.1.1, eh) (
        record {
          lo_plan = t;
          lo_totals = h;
          lo_origin = planned n d whole m;
          fits = omega (arith, w.0, h.rate);
          hi_plan = b.hi_plan;
          hi_totals = b.hi_totals;
          hi_n = b.hi_n;
          hi_d = b.hi_d;
          hi_whole = b.hi_whole;
          hi_origin = b.hi_origin;
          over = b.over;
        },
        omega (
          arith,
          w.0,
          h.rate,
          b.lo_totals.rate,
          bracket_rises,
          b.hi_totals.rate,
          b.over,
          climbs P b.lo_origin b.hi_origin.one (slope_at s m) whole less,
        ),
      )
      narrowed_more {at} {r} el eh (inr w) = rw (w.1.0, w.1.1, el) (
        record {
          lo_plan = b.lo_plan;
          lo_totals = b.lo_totals;
          lo_origin = b.lo_origin;
          fits = b.fits;
          hi_plan = t;
          hi_totals = h;
          hi_n = n;
          hi_d = d;
          hi_whole = whole;
          hi_origin = m;
          over = omega (arith, w.0, h.rate);
        },
        omega (
          arith,
          w.0,
          h.rate,
          b.lo_totals.rate,
          b.fits,
          b.hi_totals.rate,
          descends P b.hi_n b.hi_d b.hi_whole b.hi_origin lo_allowed (slope_at s m) less,
        ),
      )

-- .. and what a sequence's totals cost there
pub totals_cost_small : {P : Problem} {s : List ℕ} {t : Totals} {n d : ℕ} →
    ((u : List ℕ) → P.allowed u → (P.distortion u ≤ most_total) × (P.rate u ≤ most_total)) → TotalsOf P s t → P.allowed s →
    (n ≤ most_term) × ((1 ≤ d) × (d ≤ most_term)) → d * t.distortion.0 + n * t.rate.0 < 2 ^ 64
totals_cost_small {s = s} {t = t} {n = n} {d = d} small h a l =
    let b = small s a in
    omega (
      arith,
      cost_small {n = n} {d = d} {D = t.distortion.0} {R = t.rate.0} l.0 l.1.1 (omega (arith, h.distortion, b.0)) (omega (arith, h.rate, b.1)),
    )
