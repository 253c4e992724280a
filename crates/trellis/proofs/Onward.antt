-- One scan of the dynamic program, for any series and any step cost: the least way on from a scan is the best choice of a setting followed
-- by the least way on from there. Assumes nothing.
use mathlib.Core.Path.{◌≡◌, refl, ap}
use mathlib.Core.Logic.{◌⊎◌, inl, inr}
use mathlib.Core.List.{List, [], ◌∷◌}
use Prim.Native.Nat.{ℕ, suc, ◌+◌, ◌≤◌, ◌<◌}
use native.Mathlib.Nat.{eq-or-lt_of_le}
use native.Mathlib.Omega.{arith}
use lib.ListN.{length}
use Rattle.criteria.specs.Order.{Then, lower, tie, First}
use Rattle.criteria.proofs.Order.{then_le, then_tie, then_trans, first_antisym}
use Rattle.tables.specs.Series.{Series, Kept, total}
use Rattle.keys.specs.OneKey.{Least}

-- the allowed ways on: n settings from scan i, after setting p
abbrev pub Onward : Series → ℕ → ℕ → ℕ → List ℕ → Type 0
Onward S n i p s = (length s ≡ n) × Kept S i p s

pub least_unique : {C : List ℕ → Type 0} {k : List ℕ → ℕ} {s t : List ℕ} → Least C k s → Least C k t → s ≡ t
least_unique {s = s} {t = t} p q =
    let a = p.ahead t q.one in
    let b = q.ahead s p.one in
    first_antisym s t (then_tie a (then_le b)) (then_tie b (then_le a))

pub then_shift : {a b : ℕ} {P : Type 0} (c : ℕ) → Then a b P → Then (c + a) (c + b) P
then_shift c (lower h) = lower (omega arith)
then_shift c (tie h p) = tie (omega arith) p

module _ (S : Series) (f : ℕ → ℕ → ℕ → ℕ) where
  abbrev pub LeastOn : ℕ → ℕ → ℕ → List ℕ → Type 0
  LeastOn n i p s = Least (Onward S n i p) (total f i p) s

  pub least_end : (i p : ℕ) → LeastOn 0 i p []
  least_end i p = record { one = (refl, tt); ahead = λ t a. only t a.0 }
    where
      only : (t : List ℕ) → length t ≡ 0 → Then (total f i p []) (total f i p t) (First [] t)
      only [] e = tie refl tt
      only (q ∷ t) e = absurd (omega arith)

  -- q with s after it is no worse than q' with s' after it, and q is the lower where they tie
  abbrev pub Prefer : (i p q : ℕ) (s : List ℕ) (q' : ℕ) (s' : List ℕ) → Type 0
  Prefer i p q s q' s' = Then (total f i p (q ∷ s)) (total f i p (q' ∷ s')) (q ≤ q')

  pub least_step : (n i p q : ℕ) (s : List ℕ) → q < S.settings → S.may i p q → LeastOn n (suc i) q s →
      ((q' : ℕ) (t : List ℕ) → q' < S.settings → S.may i p q' → Onward S n (suc i) q' t → (s' : List ℕ) × LeastOn n (suc i) q' s' × Prefer i p q s q' s') →
      LeastOn (suc n) i p (q ∷ s)
  least_step n i p q s h m b others = record { one = (ap suc b.one.0, (h, m, b.one.1)); ahead = λ t a. against t a.0 a.1 }
    where
      joined : (q' : ℕ) (t s' : List ℕ) → LeastOn n (suc i) q' s' → Prefer i p q s q' s' →
          Then (total f (suc i) q' s') (total f (suc i) q' t) (First s' t) → Then (total f i p (q ∷ s)) (total f i p (q' ∷ t)) (First (q ∷ s) (q' ∷ t))
      joined q' t s' b' w v = then_trans (λ l r. last r (eq-or-lt_of_le l)) w (then_shift (f i p q') v)
        where
          last : First s' t → (q ≡ q') ⊎ (q < q') → Then q q' (First s t)
          last r (inl e) = tie e (rw (least_unique {k = total f (suc i) q'} (rw e at b) b') r)
          last r (inr l) = lower l

      against : (t : List ℕ) → length t ≡ suc n → Kept S i p t → Then (total f i p (q ∷ s)) (total f i p t) (First (q ∷ s) t)
      against [] e k = absurd (omega arith)
      against (q' ∷ t) e k =
          let o : Onward S n (suc i) q' t = (omega arith, k.2) in
          let r = others q' t k.0 k.1 o in
          joined q' t r.0 r.1 r.2 (r.1.ahead t o)
