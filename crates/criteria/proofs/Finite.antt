-- Where the allowed sequences are among finitely many, the best of any of them is found by trying all. Assumes nothing.
use mathlib.Core.Logic.{◌⊎◌, inl, inr}
use mathlib.Core.List.Memᴰ
use mathlib.Core.List.{List, [], ◌∷◌, Memᴰ}
use Prim.Native.Nat.{ℕ, ◌≤◌, max}
use native.Mathlib.Omega.{arith}
use Rattle.criteria.specs.Order.{Best}
use Rattle.criteria.specs.Choice.{Problem, NoneAllowed}
use Rattle.criteria.proofs.Order.{Ahead, ahead_refl, ahead_total, ahead_trans}

-- the allowed sequences are decided, and among those listed
pub record Finite (P : Problem) : Type 0 where
  pub all : List (List ℕ)
  pub complete : (t : List ℕ) → P.allowed t → Memᴰ t all
  pub decide : (t : List ℕ) → Dec (P.allowed t)

-- what holds at the head and in the tail holds of every member
pub member {ℓ κ} : {A : Type ℓ} {x t : A} {l : List A} (C : A → Type κ) → C x → (Memᴰ t l → C t) → Memᴰ t (x ∷ l) → C t
member C c f (Memᴰ.head e) = rw e c
member C c f (Memᴰ.tail m) = f m

module _ (C : List ℕ → Type 0) (C? : (t : List ℕ) → Dec (C t)) (k₁ k₂ : List ℕ → ℕ) where
  pub data Found (l : List (List ℕ)) : Type 0 where
    found : (s : List ℕ) → C s → ((t : List ℕ) → Memᴰ t l → C t → Ahead k₁ k₂ s t) → Found l
    nothing : ((t : List ℕ) → Memᴰ t l → C t → ⊥) → Found l

  add : (x : List ℕ) {l : List (List ℕ)} → Dec (C x) → Found l → Found (x ∷ l)
  add x (no h) (found s c f) = found s c (λ t. member (λ t. C t → Ahead k₁ k₂ s t) (λ c. absurd (h c)) (f t))
  add x (no h) (nothing f) = nothing (λ t. member (λ t. C t → ⊥) h (f t))
  add x (yes c) (nothing f) = found x c (λ t. member (λ t. C t → Ahead k₁ k₂ x t) (λ c. ahead_refl k₁ k₂ x) (λ m c. absurd (f t m c)))
  add x {l} (yes c) (found s c' f) = choose (ahead_total k₁ k₂ x s)
    where
      choose : Ahead k₁ k₂ x s ⊎ Ahead k₁ k₂ s x → Found (x ∷ l)
      choose (inl p) = found x c (λ t. member (λ t. C t → Ahead k₁ k₂ x t) (λ c. ahead_refl k₁ k₂ x) (λ m c. ahead_trans k₁ k₂ x s t p (f t m c)))
      choose (inr p) = found s c' (λ t. member (λ t. C t → Ahead k₁ k₂ s t) (λ c. p) (f t))

  pub find : (l : List (List ℕ)) → Found l
  find [] = nothing (λ t m c. Memᴰ.not-nil m)
  find (x ∷ l) = add x (C? x) (find l)

-- the largest k of the listed sequences
most : (List ℕ → ℕ) → List (List ℕ) → ℕ
most k [] = 0
most k (x ∷ l) = max (k x) (most k l)

most_is : (k : List ℕ → ℕ) (t : List ℕ) (l : List (List ℕ)) → Memᴰ t l → k t ≤ most k l
unfolding most
most_is k t [] m = absurd (Memᴰ.not-nil m)
most_is k t (x ∷ l) m = member (λ t. k t ≤ max (k x) (most k l)) (omega arith) (λ m. omega (arith, most_is k t l m)) m

module _ (P : Problem) (fin : Finite P) where
  -- of candidates that are allowed, and decided, there is a best where there is one at all
  pub some_best : (C : List ℕ → Type 0) → ((t : List ℕ) → Dec (C t)) → ((t : List ℕ) → C t → P.allowed t) → (k₁ k₂ : List ℕ → ℕ) →
      (t : List ℕ) → C t → (s : List ℕ) × Best C k₁ k₂ s
  some_best C C? sub k₁ k₂ t c = result (find C C? k₁ k₂ fin.all)
    where
      result : Found C C? k₁ k₂ fin.all → (s : List ℕ) × Best C k₁ k₂ s
      result (found s c f) = (s, record { one = c; ahead = λ t c. f t (fin.complete t (sub t c)) c })
      result (nothing f) = absurd (f t (fin.complete t (sub t c)) c)

  -- there is one of them, or there is none
  pub some_of : (C : List ℕ → Type 0) → ((t : List ℕ) → Dec (C t)) → ((t : List ℕ) → C t → P.allowed t) → ((t : List ℕ) × C t) ⊎ ((t : List ℕ) → C t → ⊥)
  some_of C C? sub = result (find C C? (λ t. 0) (λ t. 0) fin.all)
    where
      result : Found C C? (λ t. 0) (λ t. 0) fin.all → ((t : List ℕ) × C t) ⊎ ((t : List ℕ) → C t → ⊥)
      result (found s c f) = inl (s, c)
      result (nothing f) = inr (λ t c. f t (fin.complete t (sub t c)) c)

  -- so some sequence is allowed, or none is
  pub some_or_none : ((t : List ℕ) × P.allowed t) ⊎ NoneAllowed P
  some_or_none = some_of P.allowed fin.decide (λ t a. a)

  -- no allowed sequence has a k above this
  pub bound : (List ℕ → ℕ) → ℕ
  bound k = most k fin.all

  pub bound_is : (k : List ℕ → ℕ) (t : List ℕ) → P.allowed t → k t ≤ bound k
  unfolding bound
  bound_is k t a = most_is k t fin.all (fin.complete t a)
