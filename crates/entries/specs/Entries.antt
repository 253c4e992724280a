-- The rule of an entry. Assumes nothing.
use Rattle.std.specs.Prelude.{Bool, not, ◌||◌, ◌&&◌, cond, ℕ, suc, ◌-◌, ◌<◌, eqb, ltb}
use Rattle.tables.specs.Law.{Law}

-- "An entry must be below Q and keep the law with the one before; entries from N on are zero."
-- Entry j is q, and the one before is p; of the law a test of it is asked.
abbrev pub breaks : (N Q : ℕ) → (ℕ → ℕ → Bool) → (j p q : ℕ) → Bool
breaks N Q test j p q = cond (ltb j N) (not (ltb q Q) || (ltb 0 j && not (test p q))) (not (eqb q 0))

unfoldable pub entry_broken : (N Q : ℕ) → (ℕ → ℕ → Bool) → (ℕ → ℕ) → ℕ → Bool
entry_broken N Q test e j = breaks N Q test j (e (j - 1)) (e j)

-- the same of the first N entries, in the words of the law
pub record KeepsLaw (law : Law) (N Q : ℕ) (e : ℕ → ℕ) : Type 0 where
  pub below : (j : ℕ) → j < N → e j < Q
  pub follows : (j : ℕ) → suc j < N → law (e j) (e (suc j))
