-- The mark is 1 exactly where some weight differs from 1. Assumes nothing.
use mathlib.Core.Path.{◌≡◌, refl, ◌∙◌}
use mathlib.Core.Logic.{◌↔◌, ◌⊎◌, inl, inr, ◌≢◌}
use mathlib.Core.Bool.{Bool, true, false}
use mathlib.Core.List.{List, [], ◌∷◌}
use Prim.Native.Nat.{ℕ, zero, suc, ◌+◌, ◌≤◌, ◌<◌}
use native.Mathlib.Omega.{arith}
use lib.Dec.{eqb}
use lib.ListN.{length, get_or, drop, drop_of_length-le}
use lib.Seq.{drop-cons}
use borrow.Author.Tests.{eqb-true, eqb-false, eq-eqb, ne_eqb}
use Rattle.tables.specs.Tables.{AllOne}
use Rattle.rules.specs.Rules.{neither_of_two}
use Rattle.filing.specs.Filing.{mark_of, SomeOther}

-- the first weight, and those after it
one_first : (w : ℕ) (weights : List ℕ) → w ≡ 1 → mark_of (w ∷ weights) ≡ mark_of weights
one_first w weights e = rw (eq-eqb w 1 e) refl

other_first : (w : ℕ) (weights : List ℕ) → w ≢ 1 → mark_of (w ∷ weights) ≡ 1
other_first w weights n = rw (ne_eqb w 1 n) refl

-- it is 0 or 1, and what each says
marked : (weights : List ℕ) → ((mark_of weights ≡ 0) × AllOne weights) ⊎ ((mark_of weights ≡ 1) × SomeOther weights)
marked [] = inl (refl, λ i h. absurd (omega arith))
marked (w ∷ weights) = of (eqb w 1) refl (marked weights)
  where
    of : (b : Bool) → eqb w 1 ≡ b → ((mark_of weights ≡ 0) × AllOne weights) ⊎ ((mark_of weights ≡ 1) × SomeOther weights) →
        ((mark_of (w ∷ weights) ≡ 0) × AllOne (w ∷ weights)) ⊎ ((mark_of (w ∷ weights) ≡ 1) × SomeOther (w ∷ weights))
    of false e r = inr (other_first w weights (eqb-false w 1 e), (0, omega arith, eqb-false w 1 e))
    of true e (inl r) = inl (one_first w weights (eqb-true w 1 e) ∙ r.0, ones)
      where
        ones : AllOne (w ∷ weights)
        ones zero h = eqb-true w 1 e
        ones (suc i) h = r.1 i (omega arith)
    of true e (inr r) = inr (one_first w weights (eqb-true w 1 e) ∙ r.0, (suc r.1.0, omega (arith, r.1.1), r.1.2))

-- "is 1 when any weight differs from 1", and only then
pub mark_exactly : (weights : List ℕ) → (mark_of weights ≡ 1) ↔ SomeOther weights
mark_exactly weights = of (marked weights)
  where
    of : ((mark_of weights ≡ 0) × AllOne weights) ⊎ ((mark_of weights ≡ 1) × SomeOther weights) → (mark_of weights ≡ 1) ↔ SomeOther weights
    of (inl r) = (λ e. absurd (omega (arith, r.0)), λ s. absurd (s.2 (r.1 s.0 s.1)))
    of (inr r) = (λ e. r.1, λ s. r.0)

-- where it is 0, all are 1
pub mark_zero : (weights : List ℕ) → mark_of weights ≡ 0 → AllOne weights
mark_zero weights e = of (marked weights)
  where
    of : ((mark_of weights ≡ 0) × AllOne weights) ⊎ ((mark_of weights ≡ 1) × SomeOther weights) → AllOne weights
    of (inl r) = r.1
    of (inr r) = absurd (omega (arith, r.0))

-- the mark keeps its rule
pub mark_kept : (weights : List ℕ) → neither_of_two (mark_of weights) ≡ false
mark_kept weights = of (marked weights)
  where
    of : ((mark_of weights ≡ 0) × AllOne weights) ⊎ ((mark_of weights ≡ 1) × SomeOther weights) → neither_of_two (mark_of weights) ≡ false
    of (inl r) = rw r.0 refl
    of (inr r) = rw r.0 refl

-- weight after weight
pub one_more : (weights : List ℕ) (i : ℕ) → i < length weights → get_or weights i 0 ≡ 1 → mark_of (drop i weights) ≡ mark_of (drop (i + 1) weights)
one_more weights i h e =
    let z : i + 1 ≡ suc i = omega arith in
    rw (drop-cons weights i 0 h, z) (one_first (get_or weights i 0) (drop (suc i) weights) e)

pub other_found : (weights : List ℕ) (i : ℕ) → i < length weights → get_or weights i 0 ≢ 1 → mark_of (drop i weights) ≡ 1
other_found weights i h n = rw (drop-cons weights i 0 h) (other_first (get_or weights i 0) (drop (suc i) weights) n)

-- past the last weight
pub none_left : (weights : List ℕ) (i : ℕ) → length weights ≤ i → mark_of (drop i weights) ≡ 0
none_left weights i h = rw (drop_of_length-le weights {i = i} h) refl
