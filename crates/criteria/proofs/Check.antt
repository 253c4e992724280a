-- Looking for a proof of each kind of answer by trying all sequences of a finite problem: `some` holds a proof. Assumes nothing.
use mathlib.Core.Option.{Option, none, some}
use mathlib.Core.Bool.{Bool, true, false}
use mathlib.Core.List.Memᴰ
use mathlib.Core.List.{List, [], ◌∷◌, Memᴰ}
use Prim.Native.Nat.{ℕ, zero, suc, ◌+◌, ◌*◌, ◌≤◌, ◌<◌}
use native.Mathlib.Nat.{mul-le-mul_left, le_trans, not-le_of_lt}
use native.Mathlib.Decide.{dec_le, dec_lt, ℕ_discrete}
use native.Mathlib.Omega.{arith}
use lib.Dec.{T}
use Rattle.criteria.specs.Order.{Then, lower, tie, First, Best}
use Rattle.criteria.specs.Fraction.{gcd, Lowest}
use Rattle.criteria.specs.Choice.{Problem, Ceiling, Multiplier, Average, AverageFloor, Minmax, TrueBest, NoneWithin, Floor, cost}
use Rattle.criteria.proofs.Order.{Ahead}
use Rattle.criteria.proofs.Fraction.{lowest_gcd}
use Rattle.criteria.specs.Found.{Certificate, at_zero, tied}
use Rattle.criteria.proofs.Bound.{certified}
use Rattle.criteria.proofs.Finite.{Finite, member}
use Rattle.criteria.proofs.Decide.{dec_×}

abbrev pub is_some : {A : Type 0} → Option A → Bool
is_some none = false
is_some (some a) = true

pub proof : {A : Type 0} (r : Option A) → T (is_some r) → A
proof none t = absurd t
proof (some a) t = a

abbrev pub with : {A B : Type 0} → Option (A → B) → Option A → Option B
with none r = none
with (some f) none = none
with (some f) (some a) = some (f a)

abbrev pub given : {A : Type 0} → Dec A → Option A
given (yes a) = some a
given (no h) = none

abbrev pub or_try : {A : Type 0} → Option A → Option A → Option A
or_try none r = r
or_try (some a) r = some a

-- A where it is asked for
abbrev pub if_any : {A C : Type 0} → Dec C → Option A → Option (C → A)
if_any (no h) r = some (λ c. absurd (h c))
if_any (yes c) none = none
if_any (yes c) (some a) = some (λ c. a)

abbrev pub for_each : {A : List ℕ → Type 0} (l : List (List ℕ)) → ((t : List ℕ) → Option (A t)) → Option ((t : List ℕ) → Memᴰ t l → A t)
for_each [] f = some (λ t m. absurd (Memᴰ.not-nil m))
for_each {A} (x ∷ l) f = with (with (some (λ a g t. member A a (g t))) (f x)) (for_each l f)

abbrev pub for_one : {A : Type 0} (l : List (List ℕ)) → ((t : List ℕ) → Option A) → Option A
for_one [] f = none
for_one (x ∷ l) f = or_try (f x) (for_one l f)

abbrev pub then? : {P : Type 0} (a b : ℕ) → Option P → Option (Then a b P)
then? a b r = or_try (with (some lower) (given (dec_lt a b))) (with (with (some tie) (given (ℕ_discrete a b))) r)

abbrev pub first? : (s t : List ℕ) → Option (First s t)
first? [] t = some tt
first? (a ∷ s) [] = none
first? (a ∷ s) (b ∷ t) = then? a b (first? s t)

abbrev pub floor? : (n d B D R F : ℕ) → Option (Floor n d B D R F)
floor? n d B D R zero = with (some (λ h. record { holds = h; least = λ G g. omega arith })) (given (dec_le (d * D + n * R) (d * 0 + n * B)))
floor? n d B D R (suc F) =
    with (with (some (λ h g. record { holds = h; least = λ G k. by_order G k g (dec_lt F G) })) (given (dec_le (d * D + n * R) (d * suc F + n * B))))
    (given (dec_lt (d * F + n * B) (d * D + n * R)))
  where
    by_order : (G : ℕ) → d * D + n * R ≤ d * G + n * B → d * F + n * B < d * D + n * R → Dec (F < G) → suc F ≤ G
    by_order G k g (yes h) = h
    by_order G k g (no h) = absurd (omega (arith, mul-le-mul_left {m = G} {n = F} d (omega arith)))

abbrev pub lowest? : (n d : ℕ) → Option (Lowest n d)
lowest? n d = with (with (some (lowest_gcd n d)) (given (dec_le 1 d))) (given (ℕ_discrete (gcd n d) 1))

module _ (P : Problem) (fin : Finite P) where
  -- of every allowed sequence
  abbrev pub every? : {A : List ℕ → Type 0} → ((t : List ℕ) → Option (A t)) → Option ((t : List ℕ) → P.allowed t → A t)
  every? f = with (some (λ g t a. g t (fin.complete t a) a)) (for_each fin.all (λ t. if_any (fin.decide t) (f t)))

  abbrev pub ahead? : (k₁ k₂ : List ℕ → ℕ) (s t : List ℕ) → Option (Ahead k₁ k₂ s t)
  ahead? k₁ k₂ s t = then? (k₁ s) (k₁ t) (then? (k₂ s) (k₂ t) (first? s t))

  -- the best of all allowed sequences
  abbrev pub best? : (k₁ k₂ : List ℕ → ℕ) (s : List ℕ) → Option (Best P.allowed k₁ k₂ s)
  best? k₁ k₂ s = with (with (some (λ a g. record { one = a; ahead = g })) (given (fin.decide s))) (every? (ahead? k₁ k₂ s))

  abbrev pub multiplier? : (n d : ℕ) (s : List ℕ) → Option (Multiplier P n d s)
  multiplier? n d s = best? (cost P n d) P.rate s

  -- the best of those that have a k up to B
  abbrev pub best_within? : (k : List ℕ → ℕ) (B : ℕ) (k₁ k₂ : List ℕ → ℕ) (s : List ℕ) → Option (Best (λ t. P.allowed t × (k t ≤ B)) k₁ k₂ s)
  best_within? k B k₁ k₂ s =
      with (with (some (λ w g. record { one = w; ahead = λ t c. g t c.0 c.1 })) (given (dec_× (fin.decide s) (dec_le (k s) B))))
      (every? (λ t. if_any (dec_le (k t) B) (ahead? k₁ k₂ s t)))

  abbrev pub ceiling? : (X : ℕ) (s : List ℕ) → Option (Ceiling P X s)
  ceiling? X s = best_within? P.peak X P.rate P.distortion s

  abbrev pub true_best? : (B : ℕ) (s : List ℕ) → Option (TrueBest P B s)
  true_best? B s = best_within? P.rate B P.distortion P.rate s

  abbrev pub certificate? : (n d B : ℕ) (s : List ℕ) → Option (Certificate P n d B s)
  certificate? n d B s =
      or_try (with (some at_zero) (given (ℕ_discrete n 0)))
      (for_one fin.all (λ t.
      with (with (with (some (tied t)) (given (fin.decide t))) (given (dec_lt B (P.rate t)))) (given (ℕ_discrete (cost P n d t) (cost P n d s)))))

  abbrev pub average? : (B n d : ℕ) (s : List ℕ) → Option (Average P B n d s)
  average? B n d s =
      with (with (with (with (some (λ p h c l. record { plan = p; fits = h; least = certified P c p; lowest = l })) (multiplier? n d s))
      (given (dec_le (P.rate s) B))) (certificate? n d B s)) (lowest? n d)

  abbrev pub average_floor? : (B n d : ℕ) (s : List ℕ) (F : ℕ) → Option (AverageFloor P B n d s F)
  average_floor? B n d s F = floor? n d B (P.distortion s) (P.rate s) F

  abbrev pub minmax? : (B X : ℕ) (s : List ℕ) → Option (Minmax P B X s)
  minmax? B X s =
      with (with (with (some (λ p h g. record { some_fits = (s, p.one, h); least = λ Y t w k. le_trans (g t w.0 k) w.1; plan = p }))
      (ceiling? X s)) (given (dec_le (P.rate s) B))) (every? (λ t. if_any (dec_le (P.rate t) B) (given (dec_le X (P.peak t)))))

  -- refusal 9, where what is within is what is allowed with a k up to B
  abbrev pub none_within? : (k : List ℕ → ℕ) (B : ℕ) → Option (NoneWithin P (λ t. P.allowed t × (k t ≤ B)))
  none_within? k B =
      with (with (some (λ e g. record { exist = e; none_within = λ t w. not-le_of_lt (g t w.0) w.1 }))
      (for_one fin.all (λ t. with (some (λ a. (t, a))) (given (fin.decide t))))) (every? (λ t. given (dec_lt B (k t))))
