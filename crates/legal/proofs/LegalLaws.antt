-- Legal cells: a run of cells with the next cell, and with the run behind it; a run has one answer; and a table has a lowest illegal cell, and
-- only one, or all are legal. Assumes nothing.
use mathlib.Core.Path.{◌≡◌, refl}
use mathlib.Core.Logic.{◌⊎◌, inl, inr}
use mathlib.Core.Bool.{Bool, true, false}
use mathlib.Core.Option.{Option}
use mathlib.Core.List.{List}
use Prim.Native.Nat.{ℕ, zero, suc, ◌≤◌, ◌<◌}
use native.Mathlib.Decide.{dec_lt}
use native.Mathlib.Omega.{arith}
use lib.ListN.{length}
use Rattle.laws.proofs.Tests.{never, cases}
use Rattle.tables.specs.Legal.{LegalCell, AllLegal, LowestIllegal, cell_illegal}
use Rattle.tables.specs.declared.refusal.Refusal.{Refusal}
use Rattle.tables.proofs.LegalTests.{legal_passes, passed_legal}
use Rattle.legal.specs.Judged.{LegalRun, LowestInRun, RunJudged, run_legal, run_illegal}

module _ (weigh : ℕ → ℕ) (rates distortions : List ℕ) where
  -- a cell is legal or not
  pub legal? : (k : ℕ) → LegalCell weigh rates distortions k ⊎ (LegalCell weigh rates distortions k → ⊥)
  legal? k = of (cell_illegal weigh rates distortions k) refl
    where
      of : (b : Bool) → cell_illegal weigh rates distortions k ≡ b → LegalCell weigh rates distortions k ⊎ (LegalCell weigh rates distortions k → ⊥)
      of false e = inl (passed_legal weigh rates distortions k e)
      of true e = inr (λ l. let z = legal_passes weigh rates distortions k l in never cc)

  -- a run and its next cell: both legal; the run legal and the cell not; the run not
  pub legal_more : {from to : ℕ} → LegalRun weigh rates distortions from to → LegalCell weigh rates distortions to → LegalRun weigh rates distortions from (suc to)
  legal_more {to = to} l c k g h = cases k to (λ u. l k g u) (λ u. let e : k ≡ to = omega arith in rw e c)

  pub lowest_next : {from to : ℕ} → from ≤ to → LegalRun weigh rates distortions from to → (LegalCell weigh rates distortions to → ⊥) → LowestInRun weigh rates distortions from (suc to) to
  lowest_next h l n = record { behind = h; inside = omega arith; illegal = n; lowest = l }

  pub lowest_more : {from to k : ℕ} → LowestInRun weigh rates distortions from to k → LowestInRun weigh rates distortions from (suc to) k
  lowest_more p = record { behind = p.behind; inside = omega (arith, p.inside); illegal = p.illegal; lowest = p.lowest }

  -- a run and the one behind it: both legal; the first legal and the second not
  pub legal_on : {from middle to : ℕ} → LegalRun weigh rates distortions from middle → LegalRun weigh rates distortions middle to → LegalRun weigh rates distortions from to
  legal_on {middle = middle} l m k g h = cases k middle (λ u. l k g u) (λ u. m k u h)

  pub lowest_on : {from middle to k : ℕ} → from ≤ middle → LegalRun weigh rates distortions from middle → LowestInRun weigh rates distortions middle to k → LowestInRun weigh rates distortions from to k
  lowest_on h l p = record { behind = omega (arith, p.behind); inside = p.inside; illegal = p.illegal; lowest = legal_on l p.lowest }

  module _ {from to : ℕ} where
    lowest_in_run_unique : {k k' : ℕ} → LowestInRun weigh rates distortions from to k → LowestInRun weigh rates distortions from to k' → k ≡ k'
    lowest_in_run_unique {k} {k'} p q = by_order (dec_lt k k') (dec_lt k' k)
      where
        by_order : Dec (k < k') → Dec (k' < k) → k ≡ k'
        by_order (yes h) g = absurd (p.illegal (q.lowest k p.behind h))
        by_order (no h) (yes g) = absurd (q.illegal (p.lowest k' q.behind g))
        by_order (no h) (no g) = omega arith

    not_both_in_run : {k : ℕ} → LowestInRun weigh rates distortions from to k → LegalRun weigh rates distortions from to → ⊥
    not_both_in_run {k} p l = p.illegal (l k p.behind p.inside)

    -- a run has one answer
    pub run_unique : {o o' : Option Refusal} → RunJudged weigh rates distortions from to o → RunJudged weigh rates distortions from to o' → o ≡ o'
    run_unique (run_legal l) (run_legal l') = refl
    run_unique (run_legal l) (run_illegal p) = absurd (not_both_in_run p l)
    run_unique (run_illegal p) (run_legal l) = absurd (not_both_in_run p l)
    run_unique (run_illegal p) (run_illegal q) = rw (lowest_in_run_unique p q) refl

  -- a run has a lowest illegal cell, or all are legal
  pub lowest_or_run : (from to : ℕ) → ((k : ℕ) × LowestInRun weigh rates distortions from to k) ⊎ LegalRun weigh rates distortions from to
  lowest_or_run from zero = inr (λ k g h. absurd (omega arith))
  lowest_or_run from (suc to) = of (dec_lt to from) (lowest_or_run from to) (legal? to)
    where
      of : Dec (to < from) → ((k : ℕ) × LowestInRun weigh rates distortions from to k) ⊎ LegalRun weigh rates distortions from to →
          LegalCell weigh rates distortions to ⊎ (LegalCell weigh rates distortions to → ⊥) →
          ((k : ℕ) × LowestInRun weigh rates distortions from (suc to) k) ⊎ LegalRun weigh rates distortions from (suc to)
      of (yes g) f d = inr (λ k u h. absurd (omega arith))
      of (no g) (inl f) d = inl (f.0, lowest_more f.1)
      of (no g) (inr l) (inl c) = inr (legal_more l c)
      of (no g) (inr l) (inr c) = inl (to, lowest_next (omega arith) l c)

  -- a table is the run of all its cells
  pub all_of_run : {to : ℕ} → length rates ≤ to → LegalRun weigh rates distortions 0 to → AllLegal weigh rates distortions
  all_of_run h l k g = l k (omega arith) (omega arith)

  pub lowest_of_run : {to k : ℕ} → to ≤ length rates → LowestInRun weigh rates distortions 0 to k → LowestIllegal weigh rates distortions k
  lowest_of_run h p = record {
    inside = omega (arith, p.inside);
    illegal = p.illegal;
    lowest = λ j g. p.lowest j (omega arith) g;
  }

  run_of_lowest : {k : ℕ} → LowestIllegal weigh rates distortions k → LowestInRun weigh rates distortions 0 (length rates) k
  run_of_lowest p = record { behind = omega arith; inside = p.inside; illegal = p.illegal; lowest = λ j u g. p.lowest j g }

  pub lowest_illegal_unique : {k k' : ℕ} → LowestIllegal weigh rates distortions k → LowestIllegal weigh rates distortions k' → k ≡ k'
  lowest_illegal_unique p q = lowest_in_run_unique (run_of_lowest p) (run_of_lowest q)

  -- a table has a lowest illegal cell, or all are legal
  pub lowest_or_all : ((k : ℕ) × LowestIllegal weigh rates distortions k) ⊎ AllLegal weigh rates distortions
  lowest_or_all = of (lowest_or_run 0 (length rates))
    where
      of : ((k : ℕ) × LowestInRun weigh rates distortions 0 (length rates) k) ⊎ LegalRun weigh rates distortions 0 (length rates) → ((k : ℕ) × LowestIllegal weigh rates distortions k) ⊎ AllLegal weigh rates distortions
      of (inl f) = inl (f.0, lowest_of_run (omega arith) f.1)
      of (inr l) = inr (all_of_run (omega arith) l)

  -- a table with an illegal cell is not all legal
  pub not_both : {k : ℕ} → LowestIllegal weigh rates distortions k → AllLegal weigh rates distortions → ⊥
  not_both {k} p a = p.illegal (a k p.inside)
