-- Laws of sequences over a series, step by step. Assumes nothing.
use mathlib.Core.Path.{◌≡◌, refl, ap₂}
use mathlib.Core.List.{List, [], ◌∷◌}
use Prim.Native.Nat.{ℕ, zero, suc, ◌+◌, ◌<◌, max}
use native.Mathlib.Omega.{arith}
use lib.ListN.{length, get_or}
use Rattle.tables.specs.Series.{Series, Kept, total, largest}

-- what may be taken in one series may be taken in another
pub kept_map : (S S' : Series) → ((i p q : ℕ) → (q < S.settings) × S.may i p q → (q < S'.settings) × S'.may i p q) →
    (i p : ℕ) (s : List ℕ) → Kept S i p s → Kept S' i p s
kept_map S S' f i p [] k = tt
kept_map S S' f i p (q ∷ s) k = let r = f i p q (k.0, k.1) in (r.0, r.1, kept_map S S' f (suc i) q s k.2)

-- what agrees at every step that may be taken agrees over a sequence
module _ (S : Series) (f g : ℕ → ℕ → ℕ → ℕ) (same : (i p q : ℕ) → S.may i p q → f i p q ≡ g i p q) where
  pub total_same : (i p : ℕ) (s : List ℕ) → Kept S i p s → total f i p s ≡ total g i p s
  total_same i p [] k = refl
  total_same i p (q ∷ s) k = ap₂ ◌+◌ (same i p q k.1) (total_same (suc i) q s k.2)

  pub largest_same : (i p : ℕ) (s : List ℕ) → Kept S i p s → largest f i p s ≡ largest g i p s
  largest_same i p [] k = refl
  largest_same i p (q ∷ s) k = ap₂ max (same i p q k.1) (largest_same (suc i) q s k.2)

-- every setting of a sequence is below Q
pub kept_below : (S : Series) (i p : ℕ) (s : List ℕ) → Kept S i p s → (j : ℕ) → j < length s → get_or s j 0 < S.settings
kept_below S i p [] k j h = absurd (omega arith)
kept_below S i p (q ∷ s) k zero h = k.0
kept_below S i p (q ∷ s) k (suc j) h = kept_below S (suc i) q s k.2 j (omega arith)
