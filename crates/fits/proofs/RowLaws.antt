-- A scan, row by row. Assumes nothing.
use mathlib.Core.Path.{◌≡◌, ◌∙◌}
use mathlib.Core.Logic.{◌⊎◌, inl, inr}
use mathlib.Core.List.{List}
use Prim.Native.Nat.{ℕ, ◌+◌, ◌*◌, ◌≤◌, ◌<◌, min}
use native.Mathlib.Decide.{ℕ_discrete, dec_lt}
use native.Mathlib.Omega.{arith}
use lib.ListN.{length, get_or}
use Rattle.tables.specs.Limits.{over_total}
use Rattle.tables.specs.Law.{Law, SideBySide}
use Rattle.fits.specs.Reach.{comes_to, RowTaken, ScanTaken}

module _ (follows : Law) (rates : List ℕ) (Q at : ℕ) (least : List ℕ) where
  pub scan_none : (l : List ℕ) → length l ≡ 16 → ((q : ℕ) → q < Q → get_or l q 0 ≡ over_total) → ScanTaken follows rates Q at 0 least l
  scan_none l n e = record {
    capped = λ q h. omega (arith, e q h);
    lowest = λ p q h. absurd (omega arith);
    found = λ q h g. absurd (omega (arith, e q h));
    long = n;
  }

  -- one row more: that of the settings that may follow p
  module _ {p from to : ℕ} {l l' : List ℕ} (span : SideBySide follows p Q from to) (done : ScanTaken follows rates Q at p least l)
      (row : RowTaken rates (at + p * Q) (get_or least p 0) from to l l') where
    abbrev offered : ℕ → ℕ
    offered q = comes_to (get_or least p 0) (get_or rates (at + p * Q + q) 0)

    -- a setting stays as it was, or comes to the lesser
    either : (q : ℕ) → q < Q → (follows p q × (get_or l' q 0 ≡ min (get_or l q 0) (offered q))) ⊎ ((follows p q → ⊥) × (get_or l' q 0 ≡ get_or l q 0))
    either q h = of (dec_lt q from) (dec_lt q to)
      where
        of : Dec (q < from) → Dec (q < to) → (follows p q × (get_or l' q 0 ≡ min (get_or l q 0) (offered q))) ⊎ ((follows p q → ⊥) × (get_or l' q 0 ≡ get_or l q 0))
        of (yes a) b = inr (λ f. let r = span.reached q h f in absurd (omega (arith, r.0)), row.outside q (λ x y. omega arith))
        of (no a) (yes b) = inl (span.allowed q (omega arith) b, row.inside q (omega arith) b)
        of (no a) (no b) = inr (λ f. let r = span.reached q h f in absurd (omega (arith, r.1)), row.outside q (λ x y. omega arith))

    not_over : (q : ℕ) → q < Q → get_or l' q 0 ≤ get_or l q 0
    not_over q h = of (either q h)
      where
        of : (follows p q × (get_or l' q 0 ≡ min (get_or l q 0) (offered q))) ⊎ ((follows p q → ⊥) × (get_or l' q 0 ≡ get_or l q 0)) → get_or l' q 0 ≤ get_or l q 0
        of (inl e) = omega (arith, e.1)
        of (inr e) = omega (arith, e.1)

    pub scan_more : ScanTaken follows rates Q at (p + 1) least l'
    scan_more = record {
      capped = λ q h. omega (arith, not_over q h, done.capped q h);
      lowest = λ r q g h f. lowest r q g h f (ℕ_discrete r p) (either q h);
      found = λ q h g. found q h g (either q h) (dec_lt (offered q) (get_or l q 0));
      long = row.long ∙ done.long;
    }
      where
        lowest : (r q : ℕ) → r < p + 1 → q < Q → follows r q → Dec (r ≡ p) →
            (follows p q × (get_or l' q 0 ≡ min (get_or l q 0) (offered q))) ⊎ ((follows p q → ⊥) × (get_or l' q 0 ≡ get_or l q 0)) →
            get_or l' q 0 ≤ comes_to (get_or least r 0) (get_or rates (at + r * Q + q) 0)
        lowest r q g h f (yes e) (inl x) = rw e (omega (arith, x.1))
        lowest r q g h f (yes e) (inr x) = absurd (x.0 (rw e at f))
        lowest r q g h f (no e) x = omega (arith, not_over q h, done.lowest r q (omega arith) h f)

        -- what was found before, where it still stands
        stays : (q : ℕ) → q < Q → get_or l' q 0 ≡ get_or l q 0 → get_or l' q 0 < over_total →
            (r : ℕ) × (r < p + 1) × follows r q × (get_or l' q 0 ≡ comes_to (get_or least r 0) (get_or rates (at + r * Q + q) 0))
        stays q h e g = let x = done.found q h (omega arith) in (x.0, omega (arith, x.1), x.2, e ∙ x.3)

        found : (q : ℕ) → q < Q → get_or l' q 0 < over_total →
            (follows p q × (get_or l' q 0 ≡ min (get_or l q 0) (offered q))) ⊎ ((follows p q → ⊥) × (get_or l' q 0 ≡ get_or l q 0)) → Dec (offered q < get_or l q 0) →
            (r : ℕ) × (r < p + 1) × follows r q × (get_or l' q 0 ≡ comes_to (get_or least r 0) (get_or rates (at + r * Q + q) 0))
        found q h g (inl x) (yes d) = (p, omega arith, x.0, omega (arith, x.1))
        found q h g (inl x) (no d) = stays q h (omega (arith, x.1)) g
        found q h g (inr x) d = stays q h x.1 g
