-- One scan, a setting before it at a time: the least of a run is the least of what the law allows. Assumes nothing.
use mathlib.Core.Path.{◌≡◌, ◌∙◌}
use mathlib.Core.List.{List}
use Prim.Native.Nat.{ℕ, ◌+◌, ◌≤◌, ◌<◌}
use native.Mathlib.Decide.{ℕ_discrete}
use native.Mathlib.Omega.{arith}
use lib.ListN.{length, get_or, set}
use lib.Seq.{get_or-set_same, get_or-set_other}
use Rattle.tables.specs.Law.{Law, SideBySide}
use Rattle.tables.specs.Tables.{scratch_need}
use Rattle.least.specs.Row.{BestOf}
use Rattle.trellis.specs.Choices.{choice, ChoiceStored}
use Rattle.trellis.specs.Stepped.{BestAmong}

-- the best of settings side by side is the best of those that the law lets follow
pub run_best : {law : Law} {p k lo hi v f : ℕ} (x : ℕ → ℕ) → SideBySide law p k lo hi → BestOf x lo hi v f → BestAmong (λ q. (q < k) × law p q) x v f
run_best {law} {p} {k} {lo} {hi} {v} {f} x s b = record {
  capped = b.capped;
  least = λ q m. let w = s.reached q m.0 m.1 in b.least q w.0 w.1;
  found = λ e. let w = b.found e in ((omega (arith, w.1, s.inside), s.allowed f w.0 w.1), w.2);
  before = λ e q m l. b.before e q (s.reached q m.0 m.1).0 l;
}

-- and where nothing stands before, the best of all
pub all_best : {k v f : ℕ} (x : ℕ → ℕ) → BestOf x 0 k v f → BestAmong (λ q. (q < k) × Unit {0}) x v f
all_best {k} {v} {f} x b = record {
  capped = b.capped;
  least = λ q m. b.least q (omega arith) m.0;
  found = λ e. let w = b.found e in ((w.1, tt), w.2);
  before = λ e q m l. b.before e q (omega arith) l;
}

-- the same settings in other words
pub best_of_same : {A B : ℕ → Type 0} {x : ℕ → ℕ} {v f : ℕ} → ((q : ℕ) → A q → B q) → ((q : ℕ) → B q → A q) → BestAmong A x v f → BestAmong B x v f
best_of_same {f = f} to from b = record {
  capped = b.capped;
  least = λ q m. b.least q (from q m);
  found = λ e. let w = b.found e in (to f w.0, w.1);
  before = λ e q m l. b.before e q (from q m) l;
}

-- the settings before a scan that are done: each has its best, no choice of another scan has moved, and no byte beyond
pub record StepSoFar (law : Law) (x : ℕ → ℕ → ℕ) (Q i p : ℕ) (keys scratch₀ scratch : List ℕ) : Type 0 where
  pub best : (r : ℕ) → r < p → BestAmong (λ q. (q < Q) × law r q) (x r) (get_or keys r 0) (choice Q scratch i r)
  pub long : length scratch ≡ length scratch₀
  pub others : (j r : ℕ) → r < Q → (j ≡ i → ⊥) → choice Q scratch j r ≡ choice Q scratch₀ j r
  pub beyond : (N k : ℕ) → i < N → scratch_need N Q ≤ k → get_or scratch k 0 ≡ get_or scratch₀ k 0

-- one more
pub step_more : {law : Law} {x : ℕ → ℕ → ℕ} {Q i p v f : ℕ} {keys scratch₀ scratch scratch' : List ℕ} → p < length keys → p < Q →
    BestAmong (λ q. (q < Q) × law p q) (x p) v f → ChoiceStored Q i p f scratch scratch' → StepSoFar law x Q i p keys scratch₀ scratch →
    StepSoFar law x Q i (p + 1) (set keys p v) scratch₀ scratch'
step_more {law} {x} {Q} {i} {p} {v} {f} {keys} {scratch₀} {scratch} {scratch'} h g b c s = record {
  best = λ r l. at r l (ℕ_discrete r p);
  long = c.long ∙ s.long;
  others = λ j r l ne. c.others j r l (λ e z. ne e) ∙ s.others j r l ne;
  beyond = λ N k l m. c.beyond N k l m ∙ s.beyond N k l m;
}
  where
    at : (r : ℕ) → r < p + 1 → Dec (r ≡ p) → BestAmong (λ q. (q < Q) × law r q) (x r) (get_or (set keys p v) r 0) (choice Q scratch' i r)
    at r l (yes z) = rw (z, get_or-set_same keys p v 0 h, c.here) b
    at r l (no z) = rw (get_or-set_other keys p r v 0 z, c.others i r (omega arith) (λ e w. z w)) (s.best r (omega arith))
