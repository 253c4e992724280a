-- The search for the least ceiling, by halving. Assumes nothing.
use mathlib.Core.Path.{◌≡◌, refl}
use mathlib.Core.Bool.{true, false}
use mathlib.Core.List.{List}
use Prim.Native.Nat.{ℕ, ◌+◌, ◌≤◌, ◌<◌}
use native.Mathlib.Decide.{dec_lt}
use native.Mathlib.Omega.{arith}
use lib.Dec.{leb}
use borrow.Author.Tests.{leb-true, leb-false}
use Rattle.tables.specs.Tables.{scratch_need}
use Rattle.criteria.specs.Choice.{Problem, UnderCeiling, Ceiling}
use Rattle.criteria.proofs.Order.{then_le}
use Rattle.seek.specs.Sought.{Framed}
use Rattle.search.specs.Search.{ThriftyFits, SomeFits, LeastCeiling}
use Rattle.seek.proofs.SeekLaws.{framed_on, framed_none}

-- the least-rate plan under X fits B if anything does
pub fits_by : {P : Problem} {N Q X B R : ℕ} {before after s : List ℕ} → Ceiling P X s → R ≡ P.rate s → Framed (scratch_need N Q) before after →
    ThriftyFits P N Q X B before after (leb R B)
fits_by {B = B} {R = R} {s = s} c e f = record {
  yes_fits = λ h. (s, c.one, omega (arith, leb-true R B h));
  no_fits = λ h t w. omega (arith, leb-false R B h, then_le (c.ahead t w));
  framed = f;
}

pub none_fits : {P : Problem} {N Q X B : ℕ} {before after : List ℕ} → ((t : List ℕ) → UnderCeiling P X t → ⊥) → Framed (scratch_need N Q) before after →
    ThriftyFits P N Q X B before after false
none_fits n f = record {
  yes_fits = λ h. absurd (let z : ◌≡◌ {A = ℕ} 0 1 = cc in omega arith);
  no_fits = λ h t w. absurd (n t w);
  framed = f;
}

-- something fits under `least`, and nothing under what is below `low`
pub record Halved (P : Problem) (N Q B low least : ℕ) (before after : List ℕ) : Type 0 where
  pub order : low ≤ least
  pub some_fits : SomeFits P B least
  pub none_below : (t : List ℕ) → P.allowed t → P.rate t ≤ B → low ≤ P.peak t
  pub framed : Framed (scratch_need N Q) before after

pub halved_start : {P : Problem} {N Q B high : ℕ} {scratch : List ℕ} → SomeFits P B high → Halved P N Q B 0 high scratch scratch
halved_start f = record { order = omega arith; some_fits = f; none_below = λ t a h. omega arith; framed = framed_none _ }

module _ {P : Problem} {N Q B low least middle : ℕ} {before mid after : List ℕ} (h : Halved P N Q B low least before mid) where
  pub halved_down : low ≤ middle → ThriftyFits P N Q middle B mid after true → Halved P N Q B low middle before after
  halved_down l f = record {
    order = l;
    some_fits = f.yes_fits refl;
    none_below = h.none_below;
    framed = framed_on h.framed f.framed;
  }

  pub halved_up : middle < least → ThriftyFits P N Q middle B mid after false → Halved P N Q B (middle + 1) least before after
  halved_up l f = record {
    order = omega arith;
    some_fits = h.some_fits;
    none_below = λ t a g. by_order t a g (dec_lt middle (P.peak t));
    framed = framed_on h.framed f.framed;
  }
    where
      by_order : (t : List ℕ) → P.allowed t → P.rate t ≤ B → Dec (middle < P.peak t) → middle + 1 ≤ P.peak t
      by_order t a g (yes m) = omega arith
      by_order t a g (no m) = absurd (omega (arith, f.no_fits refl t (a, omega arith)))

-- nothing is left to halve
pub halved_end : {P : Problem} {N Q B low least : ℕ} {before after : List ℕ} → Halved P N Q B low least before after → least ≤ low →
    LeastCeiling P N Q B least before after
halved_end h e = record {
  some_fits = h.some_fits;
  least = λ Y t w g. omega (arith, h.none_below t w.0 g, w.1);
  framed = h.framed;
}
