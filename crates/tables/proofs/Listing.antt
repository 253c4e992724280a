-- The sequences of a series are finitely many: they are among all lists of so many settings below Q. Assumes nothing.
use mathlib.Core.Path.{◌≡◌, refl, ap}
use mathlib.Core.Logic.{◌⊎◌, inl, inr}
use mathlib.Core.List.Memᴰ
use mathlib.Core.List.{List, [], ◌∷◌, ◌++◌, map, Memᴰ}
use Prim.Native.Nat.{ℕ, zero, suc, ◌<◌}
use native.Mathlib.Nat.{eq-or-lt_of_le, le_of_suc-le-suc}
use native.Mathlib.Decide.{dec_lt, ℕ_discrete}
use native.Mathlib.Omega.{arith}
use lib.ListN.{length}
use Rattle.criteria.proofs.Decide.{dec_×, dec_×₃, not?}
use Rattle.criteria.proofs.Finite.{Finite}
use Rattle.tables.specs.Limits.{forbidden}
use Rattle.tables.specs.Series.{Series, Kept, problem}
use Rattle.tables.specs.Law.{Law, Follows}
use Rattle.tables.specs.Tables.{Table, rate_at, series, planning}

-- each number below b before each list
abbrev pub each : ℕ → List (List ℕ) → List (List ℕ)
each zero l = []
each (suc b) l = each b l ++ map (λ s. b ∷ s) l

-- the lists of n numbers below Q
abbrev pub lists : ℕ → ℕ → List (List ℕ)
lists Q zero = [] ∷ []
lists Q (suc n) = each Q (lists Q n)

mapped : (q : ℕ) {s : List ℕ} {l : List (List ℕ)} → Memᴰ s l → Memᴰ (q ∷ s) (map (λ s. q ∷ s) l)
mapped q (Memᴰ.head e) = Memᴰ.head (ap (λ s. q ∷ s) e)
mapped q (Memᴰ.tail m) = Memᴰ.tail (mapped q m)

in_each : (b q : ℕ) {s : List ℕ} {l : List (List ℕ)} → q < b → Memᴰ s l → Memᴰ (q ∷ s) (each b l)
in_each zero q h m = absurd (omega arith)
in_each (suc b) q {s} {l} h m = place (in_each b q) (eq-or-lt_of_le (le_of_suc-le-suc h))
  where
    place : (q < b → Memᴰ s l → Memᴰ (q ∷ s) (each b l)) → (q ≡ b) ⊎ (q < b) → Memᴰ (q ∷ s) (each (suc b) l)
    place below (inl e) = Memᴰ.append_right (each b l) (rw e (mapped b m))
    place below (inr g) = Memᴰ.append_left (map (λ s. b ∷ s) l) (below g m)

module _ (S : Series) (may? : (i p q : ℕ) → Dec (S.may i p q)) where
  pub listed : (n i p : ℕ) (s : List ℕ) → length s ≡ n → Kept S i p s → Memᴰ s (lists S.settings n)
  listed zero i p [] e k = Memᴰ.head refl
  listed zero i p (q ∷ s) e k = absurd (omega arith)
  listed (suc n) i p [] e k = absurd (omega arith)
  listed (suc n) i p (q ∷ s) e k = in_each S.settings q k.0 (listed n (suc i) q s (omega arith) k.2)

  abbrev pub kept? : (i p : ℕ) (s : List ℕ) → Dec (Kept S i p s)
  kept? i p [] = yes tt
  kept? i p (q ∷ s) = dec_×₃ (dec_lt q S.settings) (may? i p q) (kept? (suc i) q s)

  abbrev pub finite : Finite (problem S)
  finite = record {
    all = lists S.settings S.scans;
    complete = λ t a. listed S.scans 0 0 t a.0 a.1;
    decide = λ t. dec_× (ℕ_discrete (length t) S.scans) (kept? 0 0 t);
  }

abbrev pub follows? : {law : Law} → ((p q : ℕ) → Dec (law p q)) → (i p q : ℕ) → Dec (Follows law i p q)
follows? law? zero p q = yes tt
follows? law? (suc i) p q = law? p q

-- a table whose law is decided has finitely many sequences
abbrev pub table_finite : (t : Table) → ((p q : ℕ) → Dec (t.law p q)) → Finite (planning t)
table_finite t law? =
    finite (series t) (λ i p q. dec_× (not? (ℕ_discrete (rate_at t i p q) forbidden)) (follows? {law = t.law} law? i p q))
