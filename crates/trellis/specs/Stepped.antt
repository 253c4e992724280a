-- What one scan leaves. Assumes nothing.
use Rattle.std.specs.Prelude.{◌≡◌, List, [], ℕ, ◌≤◌, ◌<◌, length, get_or}
use Rattle.tables.specs.Law.{Law}
use Rattle.tables.specs.Tables.{scratch_need}
use Rattle.least.specs.declared.Rule.{Rule}
use Rattle.least.specs.Row.{no_way, candidate}
use Rattle.trellis.specs.Choices.{choice}

-- v is the least of x over the settings that may stand there, and `first` the lowest that attains it. Those from no_way on do not count, and
-- where there is none v is no_way.
pub record BestAmong (may : ℕ → Type 0) (x : ℕ → ℕ) (v first : ℕ) : Type 0 where
  pub capped : v ≤ no_way
  pub least : (q : ℕ) → may q → v ≤ x q
  pub found : v < no_way → may first × (v ≡ x first)
  pub before : v < no_way → (q : ℕ) → may q → q < first → v < x q

-- for each of Q settings before scan i, the least of the candidates that the law lets follow it, and as a choice which; no choice of another
-- scan moves, and no byte beyond the scratch of any call that has scan i
pub record Stepped (rule : Rule) (law : Law) (Q i : ℕ) (rates distortions : List (List ℕ)) (keys keys' scratch scratch' : List ℕ) : Type 0 where
  pub best : (p : ℕ) → p < Q → BestAmong (λ q. (q < Q) × law p q) (candidate rule (get_or rates p []) (get_or distortions p []) keys)
      (get_or keys' p 0) (choice Q scratch' i p)
  pub keys_long : length keys' ≡ 16
  pub long : length scratch' ≡ length scratch
  pub others : (j p : ℕ) → p < Q → (j ≡ i → ⊥) → choice Q scratch' j p ≡ choice Q scratch j p
  pub beyond : (N k : ℕ) → i < N → scratch_need N Q ≤ k → get_or scratch' k 0 ≡ get_or scratch k 0
