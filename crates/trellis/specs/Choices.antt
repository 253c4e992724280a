-- The choices that a pass stores, and the settings that they lead to. Only `choice` knows where in scratch a choice stands.
-- Assumes nothing.
use Rattle.std.specs.Prelude.{◌≡◌, List, [], ◌∷◌, ℕ, zero, suc, ◌+◌, ◌*◌, ◌≤◌, ◌<◌, length, get_or}
use Rattle.tables.specs.Tables.{scratch_need}

-- the choice of scan i after setting p
unfoldable pub choice : ℕ → List ℕ → ℕ → ℕ → ℕ
choice Q scratch i p = get_or scratch (i * Q + p) 0

-- v is stored as the choice of scan i after setting p: no other choice moves, and no byte beyond the scratch of any call that has scan i
pub record ChoiceStored (Q i p v : ℕ) (before after : List ℕ) : Type 0 where
  pub here : choice Q after i p ≡ v
  pub others : (j r : ℕ) → r < Q → (j ≡ i → r ≡ p → ⊥) → choice Q after j r ≡ choice Q before j r
  pub beyond : (N k : ℕ) → i < N → scratch_need N Q ≤ k → get_or after k 0 ≡ get_or before k 0
  pub long : length after ≡ length before

-- n settings, from scan i on after setting p, each by its choice
abbrev pub walk : (ℕ → ℕ → ℕ) → ℕ → ℕ → ℕ → List ℕ
walk ch zero i p = []
walk ch (suc n) i p = ch i p ∷ walk ch n (suc i) (ch i p)

-- the sequence that the choices lead to
abbrev pub chosen : ℕ → ℕ → List ℕ → List ℕ
chosen Q N scratch = walk (choice Q scratch) N 0 0
