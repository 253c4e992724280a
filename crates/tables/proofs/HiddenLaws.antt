-- "Beside a forbidden rate the distortion may be any value and no answer depends on it": two tables that differ only there have the same
-- allowed sequences, totals, plans, refusals and lowest illegal cell. (What two problems share that agree so is said in criteria's
-- proofs/Agree.) Assumes nothing.
use mathlib.Core.Path.{◌≡◌, refl, sym, ap}
use mathlib.Core.Logic.{inl, inr}
use mathlib.Core.List.{List}
use Prim.Native.Nat.{ℕ, ◌*◌}
use native.Mathlib.Decide.{ℕ_discrete}
use lib.ListN.{get_or}
use Rattle.criteria.proofs.Agree.{Agree}
use Rattle.tables.specs.Limits.{forbidden}
use Rattle.tables.specs.Tables.{Table, cell, weight_at, series, planning}
use Rattle.tables.specs.Legal.{LegalBeside, LegalCell, AllLegal, LowestIllegal, SameShown}
use Rattle.tables.proofs.SeriesLaws.{kept_map, total_same, largest_same}

-- the table with other distortions
abbrev pub with_distortions : Table → List ℕ → Table
with_distortions t D = record { N = t.N; Q = t.Q; law = t.law; rates = t.rates; distortions = D; weights = t.weights }

pub shown_sym : {rates D D' : List ℕ} → SameShown rates D D' → SameShown rates D' D
shown_sym h = record { long = sym h.long; shown = λ k n. sym (h.shown k n) }

pub shown_agrees : (t : Table) (D' : List ℕ) → SameShown t.rates t.distortions D' → Agree (planning t) (planning (with_distortions t D'))
shown_agrees t D' h = record {
  to = λ s a. (a.0, kept_map (series t) (series (with_distortions t D')) (λ i p q m. m) 0 0 s a.1);
  from = λ s a. (a.0, kept_map (series (with_distortions t D')) (series t) (λ i p q m. m) 0 0 s a.1);
  rate = λ s a. refl;
  distortion = λ s a. total_same (series t) (series t).distortion (series (with_distortions t D')).distortion
      (λ i p q m. ap (λ (x : ℕ). weight_at t i * x) (step i p q m)) 0 0 s a.1;
  peak = λ s a. largest_same (series t) (series t).height (series (with_distortions t D')).height step 0 0 s a.1;
}
  where
    step : (i p q : ℕ) → (series t).may i p q → get_or t.distortions (cell t.Q i p q) 0 ≡ get_or D' (cell t.Q i p q) 0
    step i p q m = h.shown (cell t.Q i p q) m.0

module _ (weigh : ℕ → ℕ) {rates D D' : List ℕ} (h : SameShown rates D D') where
  pub legal_same : (k : ℕ) → LegalCell weigh rates D k → LegalCell weigh rates D' k
  legal_same k l = (l.0, by_mark (ℕ_discrete (get_or rates k 0) forbidden) l.1)
    where
      by_mark : Dec (get_or rates k 0 ≡ forbidden) → LegalBeside (weigh k) (get_or rates k 0) (get_or D k 0) → LegalBeside (weigh k) (get_or rates k 0) (get_or D' k 0)
      by_mark (yes e) b = inr e
      by_mark (no n) (inl b) = inl (rw (← (h.shown k n)) b)
      by_mark (no n) (inr e) = absurd (n e)

  pub all_legal_same : AllLegal weigh rates D → AllLegal weigh rates D'
  all_legal_same a k g = legal_same k (a k g)

module _ (weigh : ℕ → ℕ) {rates D D' : List ℕ} (h : SameShown rates D D') where
  pub lowest_illegal_same : {k : ℕ} → LowestIllegal weigh rates D k → LowestIllegal weigh rates D' k
  lowest_illegal_same {k} l = record {
    inside = l.inside;
    illegal = λ c. l.illegal (legal_same weigh (shown_sym h) k c);
    lowest = λ j g. legal_same weigh h j (l.lowest j g);
  }
