-- `Then` and `First` are orders: antisymmetric, total, transitive. Assumes nothing.
use mathlib.Core.Path.{◌≡◌, refl, ap, ap₂}
use mathlib.Core.Logic.{◌↔◌, ◌⊎◌, inl, inr}
use mathlib.Core.List.{List, [], ◌∷◌}
use Prim.Native.Nat.{ℕ, zero, suc, ◌≤◌, ◌<◌}
use native.Mathlib.Decide.{dec_lt}
use native.Mathlib.Omega.{arith}
use lib.ListN.{length, get_or}
use Rattle.criteria.specs.Order.{Then, lower, tie, First, Best}

pub then_le : {a b : ℕ} {P : Type 0} → Then a b P → a ≤ b
then_le (lower h) = omega arith
then_le (tie e p) = omega arith

pub then_tie : {a b : ℕ} {P : Type 0} → Then a b P → b ≤ a → P
then_tie (lower h) g = absurd (omega arith)
then_tie (tie e p) g = p

pub then_trans : {a b c : ℕ} {P Q R : Type 0} → (P → Q → R) → Then a b P → Then b c Q → Then a c R
then_trans f (lower h) (lower g) = lower (omega arith)
then_trans f (lower h) (tie e q) = lower (omega arith)
then_trans f (tie e p) (lower g) = lower (omega arith)
then_trans f (tie e p) (tie e' q) = tie (omega arith) (f p q)

pub first_antisym : (s t : List ℕ) → First s t → First t s → s ≡ t
first_antisym [] [] p q = refl
first_antisym [] (b ∷ t) p q = absurd q
first_antisym (a ∷ s) [] p q = absurd p
first_antisym (a ∷ s) (b ∷ t) p q =
    ap₂ ◌∷◌ (omega (arith, then_le p, then_le q)) (first_antisym s t (then_tie p (then_le q)) (then_tie q (then_le p)))

pub first_trans : (s t u : List ℕ) → First s t → First t u → First s u
first_trans [] t u p q = tt
first_trans (a ∷ s) [] u p q = absurd p
first_trans (a ∷ s) (b ∷ t) [] p q = absurd q
first_trans (a ∷ s) (b ∷ t) (c ∷ u) p q = then_trans (first_trans s t u) p q

pub first_refl : (s : List ℕ) → First s s
first_refl [] = tt
first_refl (a ∷ s) = tie refl (first_refl s)

then_total : (a b : ℕ) {P Q : Type 0} → P ⊎ Q → Then a b P ⊎ Then b a Q
then_total a b {P} {Q} u = by_order (dec_lt a b) (dec_lt b a) u
  where
    by_order : Dec (a < b) → Dec (b < a) → P ⊎ Q → Then a b P ⊎ Then b a Q
    by_order (yes h) g u = inl (lower h)
    by_order (no h) (yes g) u = inr (lower g)
    by_order (no h) (no g) (inl p) = inl (tie (omega arith) p)
    by_order (no h) (no g) (inr q) = inr (tie (omega arith) q)

pub first_total : (s t : List ℕ) → First s t ⊎ First t s
first_total [] t = inl tt
first_total (a ∷ s) [] = inr tt
first_total (a ∷ s) (b ∷ t) = then_total a b (first_total s t)

-- the words of document 01: s and t, of one length, agree before place k, and there s has the lower setting
pub record Earlier (s t : List ℕ) : Type 0 where
  pub place : ℕ
  pub inside : place < length s
  pub same : (j : ℕ) → j < place → get_or s j 0 ≡ get_or t j 0
  pub wins : get_or s place 0 < get_or t place 0

earlier_more : (a : ℕ) {s t : List ℕ} → Earlier s t → Earlier (a ∷ s) (a ∷ t)
earlier_more a {s} {t} e = record { place = suc e.place; inside = omega (arith, e.inside); same = same; wins = e.wins }
  where
    same : (j : ℕ) → j < suc e.place → get_or (a ∷ s) j 0 ≡ get_or (a ∷ t) j 0
    same zero h = refl
    same (suc j) h = e.same j (omega arith)

-- `First` is: the same sequence, or the lower setting at the earliest place where the two differ
pub first_reads : (s t : List ℕ) → length s ≡ length t → First s t ↔ ((s ≡ t) ⊎ Earlier s t)
first_reads s t e = (to s t e, fro s t e)
  where
    more : (a : ℕ) {s t : List ℕ} → (s ≡ t) ⊎ Earlier s t → (a ∷ s ≡ a ∷ t) ⊎ Earlier (a ∷ s) (a ∷ t)
    more a (inl e) = inl (ap (λ (l : List ℕ). a ∷ l) e)
    more a (inr e) = inr (earlier_more a e)

    to : (s t : List ℕ) → length s ≡ length t → First s t → (s ≡ t) ⊎ Earlier s t
    to [] [] e p = inl refl
    to [] (b ∷ t) e p = absurd (omega arith)
    to (a ∷ s) [] e p = absurd p
    to (a ∷ s) (b ∷ t) e (lower h) = inr (record { place = 0; inside = omega arith; same = λ j h. absurd (omega arith); wins = h })
    to (a ∷ s) (b ∷ t) e (tie h p) = rw (← h) (more a (to s t (omega arith) p))

    fro : (s t : List ℕ) → length s ≡ length t → (s ≡ t) ⊎ Earlier s t → First s t
    fro s t e (inl h) = rw h (first_refl t)
    fro s t e (inr h) = at s t h.place e h.inside h.same h.wins
      where
        at : (s t : List ℕ) (k : ℕ) → length s ≡ length t → k < length s → ((j : ℕ) → j < k → get_or s j 0 ≡ get_or t j 0) →
            get_or s k 0 < get_or t k 0 → First s t
        at [] t k e i f w = tt
        at (a ∷ s) [] k e i f w = absurd (omega arith)
        at (a ∷ s) (b ∷ t) zero e i f w = lower w
        at (a ∷ s) (b ∷ t) (suc k) e i f w =
            tie (f 0 (omega arith)) (at s t k (omega arith) (omega arith) (λ j h. f (suc j) (omega arith)) w)

-- by k₁, then k₂, then first
abbrev pub Ahead : (List ℕ → ℕ) → (List ℕ → ℕ) → List ℕ → List ℕ → Type 0
Ahead k₁ k₂ s t = Then (k₁ s) (k₁ t) (Then (k₂ s) (k₂ t) (First s t))

module _ (k₁ k₂ : List ℕ → ℕ) where
  pub ahead_refl : (s : List ℕ) → Ahead k₁ k₂ s s
  ahead_refl s = tie refl (tie refl (first_refl s))

  pub ahead_total : (s t : List ℕ) → Ahead k₁ k₂ s t ⊎ Ahead k₁ k₂ t s
  ahead_total s t = then_total (k₁ s) (k₁ t) (then_total (k₂ s) (k₂ t) (first_total s t))

  pub ahead_trans : (s t u : List ℕ) → Ahead k₁ k₂ s t → Ahead k₁ k₂ t u → Ahead k₁ k₂ s u
  ahead_trans s t u = then_trans (then_trans (first_trans s t u))

  pub ahead_antisym : (s t : List ℕ) → Ahead k₁ k₂ s t → Ahead k₁ k₂ t s → s ≡ t
  ahead_antisym s t p q =
      let p₂ = then_tie p (then_le q) in
      let q₂ = then_tie q (then_le p) in
      first_antisym s t (then_tie p₂ (then_le q₂)) (then_tie q₂ (then_le p₂))

-- there is at most one best
pub best_unique : {C : List ℕ → Type 0} {k₁ k₂ : List ℕ → ℕ} {s t : List ℕ} → Best C k₁ k₂ s → Best C k₁ k₂ t → s ≡ t
best_unique {k₁ = k₁} {k₂ = k₂} {s = s} {t = t} p q = ahead_antisym k₁ k₂ s t (p.ahead t q.one) (q.ahead s p.one)
