-- What holds of every refusal that some checks can give holds of the one that they give. Assumes nothing.
use mathlib.Core.Path.{◌≡◌, refl}
use mathlib.Core.Bool.{Bool, true, false, cond}
use mathlib.Core.Option.{Option, none, some}
use mathlib.Core.List.{List, [], ◌∷◌}
use Prim.Native.Nat.{ℕ, zero, suc, ◌+◌, ◌<◌}
use native.Mathlib.Omega.{arith}
use Rattle.tables.specs.declared.refusal.Refusal.{Refusal}
use Rattle.checks.specs.Checks.{when, first_from, found, or_else, first_refusal}

-- what is refused, if anything is, is so
abbrev pub Gives : (Refusal → Type 0) → Option Refusal → Type 0
Gives P none = Unit {0}
Gives P (some r) = P r

-- .. and so of every check of a list
abbrev pub AllGive : (Refusal → Type 0) → List (Option Refusal) → Type 0
AllGive P [] = Unit {0}
AllGive P (o ∷ l) = Gives P o × AllGive P l

module _ (P : Refusal → Type 0) where
  pub given : {o : Option Refusal} {r : Refusal} → Gives P o → o ≡ some r → P r
  given {o} {r} g e = let h : Gives P (some r) = (rw e at g) in h

  -- one test
  pub gives_when : (t : Bool) (r : Refusal) → P r → Gives P (when t r)
  gives_when true r h = h
  gives_when false r h = tt

  -- one check after another
  pub gives_else : (o p : Option Refusal) → Gives P o → (o ≡ none → Gives P p) → Gives P (or_else o p)
  gives_else none p h g = g refl
  gives_else (some r) p h g = h

  -- the first of a list
  pub gives_first : (l : List (Option Refusal)) → AllGive P l → Gives P (first_refusal l)
  gives_first [] g = tt
  gives_first (o ∷ l) g = gives_else o (first_refusal l) g.0 (λ e. gives_first l g.1)

  -- the first of n numbers from j on
  pub gives_found : (n : ℕ) (r : ℕ → Refusal) (bad : ℕ → Bool) (j : ℕ) → ((i : ℕ) → i < j + n → P (r i)) → Gives P (found r (first_from bad j n))
  gives_found zero r bad j h = tt
  gives_found (suc n) r bad j h = of (bad j) (h j (omega arith)) (gives_found n r bad (suc j) (λ i g. h i (omega arith)))
    where
      of : (t : Bool) → P (r j) → Gives P (found r (first_from bad (suc j) n)) → Gives P (found r (cond t (some j) (first_from bad (suc j) n)))
      of true a b = a
      of false a b = b
