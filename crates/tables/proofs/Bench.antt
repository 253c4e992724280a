-- P1 to P14 of document 01, each by trying all sequences of its table. Assumes nothing.
use mathlib.Core.Path.{refl}
use mathlib.Core.Option.{Option, some}
use mathlib.Core.List.{List, [], ◌∷◌}
use Prim.Native.Nat.{ℕ}
use native.Mathlib.Decide.{dec_le, dec_lt, ℕ_discrete}
use lib.Dec.{lit≤, lit<}
use Rattle.criteria.specs.Choice.{Problem, Multiplier}
use Rattle.criteria.specs.Passes.{Thriftiest, Slope, last, fitting, over, none_fits, zero_fits, by_slopes}
use Rattle.criteria.proofs.Finite.{Finite}
use Rattle.criteria.proofs.Check.{proof, with, average?, average_floor?, none_within?, ceiling?, true_best?, minmax?, multiplier?, best?, given}
use Rattle.tables.specs.Bench.{table_t, table_u, T, U, AverageClaim, HasWithin, HasTotals, claims, best_claims, more_claims, Every, ◌also◌, no_more}
use Rattle.tables.specs.Law.{allows}
use Rattle.tables.proofs.Listing.{table_finite}
use Rattle.tables.proofs.LawLaws.{law?}

abbrev T-finite : Finite T
T-finite = table_finite table_t (law? 0)

abbrev U-finite : Finite U
U-finite = table_finite table_u (law? 0)

abbrev answer? : (P : Problem) → Finite P → (B : ℕ) (s : List ℕ) (n d F : ℕ) → Option (AverageClaim P B s n d F)
answer? P fin B s n d F =
    with (with (some (λ a f. record { average = a; floor = f })) (average? P fin B n d s)) (average_floor? P fin B n d s F)

abbrev allowed? : (P : Problem) → Finite P → (s : List ℕ) → Option (P.allowed s)
allowed? P fin s = given (fin.decide s)

abbrev totals? : (P : Problem) → Finite P → (s : List ℕ) (R D X : ℕ) → Option (HasTotals P s R D X)
totals? P fin s R D X =
    with (with (with (with (some (λ a r d x. record { allowed = a; rate = r; distortion = d; peak = x })) (allowed? P fin s))
    (given (ℕ_discrete (P.rate s) R))) (given (ℕ_discrete (P.distortion s) D))) (given (ℕ_discrete (P.peak s) X))

-- P1 to P14
pub bench : Every claims
unfolding dec_le dec_lt ℕ_discrete allows
bench =
    proof (answer? T T-finite _ _ _ _ _) tt
    also proof (answer? T T-finite _ _ _ _ _) tt
    also proof (answer? T T-finite _ _ _ _ _) tt
    also proof (answer? T T-finite _ _ _ _ _) tt
    also proof (answer? T T-finite _ _ _ _ _) tt
    also proof (none_within? T T-finite T.rate _) tt
    also seven
    also proof (ceiling? T T-finite _ _) tt
    also proof (ceiling? T T-finite _ _) tt
    also proof (none_within? T T-finite T.peak _) tt
    also proof (minmax? T T-finite _ _ _) tt
    also proof (minmax? T T-finite _ _ _) tt
    also proof (multiplier? T T-finite 9 4 _) tt
    also proof (multiplier? T T-finite 3 5 _) tt
    also no_more
  where
    seven : AverageClaim U 7 (2 ∷ []) 10 7 3 × HasWithin U 7 (1 ∷ []) 8
    seven = (
      proof (answer? U U-finite _ _ _ _ _) tt,
      record { within = (proof (allowed? U U-finite (1 ∷ [])) tt, lit≤ tt); distortion = refl },
    )

-- the true bests of document 02, [6]
pub best_bench : Every best_claims
unfolding dec_le dec_lt ℕ_discrete allows
best_bench =
    proof (true_best? U U-finite _ _) tt
    also proof (true_best? T T-finite _ _) tt
    also proof (true_best? T T-finite _ _) tt
    also proof (true_best? T T-finite _ _) tt
    also proof (true_best? T T-finite _ _) tt
    also no_more

-- T's sequences, and the counts of document 02, [13]
pub more_bench : Every more_claims
unfolding dec_le dec_lt ℕ_discrete allows
more_bench =
    proof (totals? T T-finite _ _ _ _) tt
    also proof (totals? T T-finite _ _ _ _) tt
    also proof (totals? T T-finite _ _ _ _) tt
    also proof (totals? T T-finite _ _ _ _) tt
    also zero_fits thriftiest (lit≤ tt) at_nought (lit≤ tt)
    also by_slopes thriftiest (lit≤ tt) at_nought (lit< tt) (fitting first (lit< tt) (lit≤ tt) (last second refl))
    also by_slopes thriftiest (lit≤ tt) at_nought (lit< tt) (over first (lit< tt) (lit< tt) (last third refl))
    also none_fits thriftiest (lit< tt)
    also no_more
  where
    thriftiest : Thriftiest T (1 ∷ 1 ∷ [])
    thriftiest = proof (best? T T-finite T.rate T.distortion (1 ∷ 1 ∷ [])) tt

    at_nought : Multiplier T 0 1 (0 ∷ 0 ∷ [])
    at_nought = proof (multiplier? T T-finite 0 1 (0 ∷ 0 ∷ [])) tt

    first : Slope T (1 ∷ 1 ∷ []) (0 ∷ 0 ∷ []) 12 9 (0 ∷ 1 ∷ [])
    first = record { fall = refl; rise = refl; plan = proof (multiplier? T T-finite 12 9 (0 ∷ 1 ∷ [])) tt }

    second : Slope T (0 ∷ 1 ∷ []) (0 ∷ 0 ∷ []) 3 5 (0 ∷ 1 ∷ [])
    second = record { fall = refl; rise = refl; plan = proof (multiplier? T T-finite 3 5 (0 ∷ 1 ∷ [])) tt }

    third : Slope T (1 ∷ 1 ∷ []) (0 ∷ 1 ∷ []) 9 4 (1 ∷ 1 ∷ [])
    third = record { fall = refl; rise = refl; plan = proof (multiplier? T T-finite 9 4 (1 ∷ 1 ∷ [])) tt }
