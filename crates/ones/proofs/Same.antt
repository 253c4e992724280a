-- With all weights 1 a question has the problem, the checks and the answers that it had without weights. Assumes nothing.
use mathlib.Core.Path.{◌≡◌, refl, sym, ◌∙◌}
use mathlib.Core.Logic.{◌⊎◌, inl, inr}
use mathlib.Core.Bool.{Bool, true, false, ◌||◌}
use mathlib.Core.Option.{Option, none}
use mathlib.Core.List.{List}
use Prim.Native.Nat.{ℕ, ◌≤◌, ◌<◌}
use native.Mathlib.Nat.{mul-le-mul_right}
use native.Mathlib.Decide.{dec_lt}
use native.Mathlib.Omega.{arith}
use lib.ListN.{length, get_or, get_or-eq_default}
use borrow.Author.Tests.{eq-eqb}
use Rattle.criteria.proofs.Agree.{Agree, agree_sym}
use Rattle.tables.specs.declared.refusal.Refusal.{Refusal}
use Rattle.tables.specs.Limits.{most_cell, forbidden}
use Rattle.tables.specs.Tables.{scan_of, series, AllOne}
use Rattle.tables.specs.Legal.{LegalBeside, LegalCell, LowestIllegal}
use Rattle.tables.proofs.SeriesLaws.{kept_map}
use Rattle.tables.proofs.OneLaws.{total_ones}
use Rattle.checks.specs.Planning.{Asked, Unsound, early, illegal, Sound, first_early, early_refusal, lengths_out, table_of, problem_of, weigh_of, fourth_check}
use Rattle.promise.proofs.Moves.{ceiling_moves, multiplier_moves, minmax_moves, average_moves}
use Rattle.ones.specs.Before.{PlainCell, LowestPlain, plain_refusal, PlainUnsound, plain_early, plain_illegal, PlainSound, plain_series, plain_problem}
use Rattle.ones.specs.Ones.{WeightsOne, AsBefore}

-- a weight of at most 1 asks nothing more of a cell than its plain distortion
light_cell : (w r D : ℕ) → w ≤ 1 → (D ≤ most_cell) ⊎ (r ≡ forbidden) → LegalBeside w r D
light_cell w r D h (inl l) = inl (l, omega (arith, mul-le-mul_right {m = w} {n = 1} D h))
light_cell w r D h (inr e) = inr e

plain_cell : (w r D : ℕ) → LegalBeside w r D → (D ≤ most_cell) ⊎ (r ≡ forbidden)
plain_cell w r D (inl l) = inl l.0
plain_cell w r D (inr e) = inr e

or_false : (t : Bool) → (t || false) ≡ t
or_false true = refl
or_false false = refl

-- past the last weight nothing stands
at_most_one : (weights : List ℕ) → AllOne weights → (i : ℕ) → get_or weights i 0 ≤ 1
at_most_one weights ones i = of (dec_lt i (length weights))
  where
    of : Dec (i < length weights) → get_or weights i 0 ≤ 1
    of (yes h) = omega (arith, ones i h)
    of (no h) = rw (get_or-eq_default weights 0 {n = i} (omega arith)) (omega arith)

module _ (a : Asked) (w : WeightsOne a) where
  -- the cells
  to_plain : (k : ℕ) → LegalCell (weigh_of a) a.rates a.distortions k → PlainCell a.rates a.distortions k
  to_plain k l = (l.0, plain_cell (weigh_of a k) (get_or a.rates k 0) (get_or a.distortions k 0) l.1)

  from_plain : (k : ℕ) → PlainCell a.rates a.distortions k → LegalCell (weigh_of a) a.rates a.distortions k
  from_plain k l =
      (l.0, light_cell (weigh_of a k) (get_or a.rates k 0) (get_or a.distortions k 0) (at_most_one a.weights w.ones (scan_of a.Q k)) l.1)

  lowest_plain : {k : ℕ} → LowestIllegal (weigh_of a) a.rates a.distortions k → LowestPlain a.rates a.distortions k
  lowest_plain {k} l = record {
    inside = l.inside;
    illegal = λ c. l.illegal (from_plain k c);
    lowest = λ j h. to_plain j (l.lowest j h);
  }

  lowest_weighed : {k : ℕ} → LowestPlain a.rates a.distortions k → LowestIllegal (weigh_of a) a.rates a.distortions k
  lowest_weighed {k} l = record {
    inside = l.inside;
    illegal = λ c. l.illegal (to_plain k c);
    lowest = λ j h. from_plain j (l.lowest j h);
  }

  -- the checks
  early_same : (further : Option Refusal) → early_refusal further a ≡ plain_refusal further a
  unfolding first_early plain_refusal
  early_same further =
      rw (eq-eqb (length a.weights) a.N w.long, or_false (lengths_out a.N a.Q a.rates a.distortions)) refl

  refused_plain : (further : Option Refusal) (r : Refusal) → Unsound further a r → PlainUnsound further a r
  refused_plain further r (early e) = plain_early (sym (early_same further) ∙ e)
  refused_plain further r (illegal e l) = plain_illegal (sym (early_same further) ∙ e) (lowest_plain l)

  refused_weighed : (further : Option Refusal) (r : Refusal) → PlainUnsound further a r → Unsound further a r
  refused_weighed further r (plain_early e) = early (early_same further ∙ e)
  refused_weighed further r (plain_illegal e l) = illegal (early_same further ∙ e) (lowest_weighed l)

  passed_plain : (further : Option Refusal) → Sound further a → PlainSound further a
  passed_plain further s = record { passed = sym (early_same further) ∙ s.passed; legal = λ k h. to_plain k (s.legal k h) }

  passed_weighed : (further : Option Refusal) → PlainSound further a → Sound further a
  passed_weighed further s = record { passed = early_same further ∙ s.passed; legal = λ k h. from_plain k (s.legal k h) }

  -- the problem
  agrees : Agree (problem_of a) (plain_problem a)
  agrees = record {
    to = λ t l. (l.0, kept_map (series (table_of a)) (plain_series (table_of a)) (λ i p q m. m) 0 0 t l.1);
    from = λ t l. (l.0, kept_map (plain_series (table_of a)) (series (table_of a)) (λ i p q m. m) 0 0 t l.1);
    rate = λ t l. refl;
    distortion = λ t l. total_ones (table_of a) w.ones 0 0 t (omega (arith, l.0, w.long));
    peak = λ t l. refl;
  }

  -- All weights 1 give exactly the answers that there were before: the problem agrees, so do the checks, and so does each promise.
  pub ones : AsBefore a
  ones = record {
    problem = record {
      allowed = λ t. (agrees.to t, agrees.from t);
      rate = agrees.rate;
      distortion = agrees.distortion;
      peak = agrees.peak;
    };
    early = early_same;
    refused = λ further r. (refused_plain further r, refused_weighed further r);
    passed = λ further. (passed_plain further, passed_weighed further);
    ceiling = λ X plan scratch r p s. (
      ceiling_moves {a = a} {a' = a} refl refl agrees (refused_plain none) (passed_plain none) X,
      ceiling_moves {a = a} {a' = a} refl refl (agree_sym agrees) (refused_weighed none) (passed_weighed none) X,
    );
    multiplier = λ n d plan scratch r p s. (
      multiplier_moves {a = a} {a' = a} refl refl agrees (refused_plain (fourth_check n d)) (passed_plain (fourth_check n d)) n d,
      multiplier_moves {a = a} {a' = a} refl refl (agree_sym agrees) (refused_weighed (fourth_check n d)) (passed_weighed (fourth_check n d)) n d,
    );
    minmax = λ B plan scratch r p s. (
      minmax_moves {a = a} {a' = a} refl refl agrees (refused_plain none) (passed_plain none) B,
      minmax_moves {a = a} {a' = a} refl refl (agree_sym agrees) (refused_weighed none) (passed_weighed none) B,
    );
    average = λ B plan scratch r p s. (
      average_moves {a = a} {a' = a} refl refl agrees (refused_plain none) (passed_plain none) B,
      average_moves {a = a} {a' = a} refl refl (agree_sym agrees) (refused_weighed none) (passed_weighed none) B,
    );
  }
