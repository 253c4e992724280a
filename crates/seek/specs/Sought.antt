-- What the parts of a search leave each other. No promise cites it. Assumes nothing.
use Rattle.std.specs.Prelude.{◌≡◌, Bool, true, false, cond, List, ◌++◌, ℕ, ◌≤◌, length, get_or, drop, replicate}
use Rattle.tables.specs.Tables.{scratch_need}
use Rattle.criteria.specs.Choice.{Problem, UnderCeiling, Ceiling, Multiplier, NoneAllowed}
use Rattle.criteria.specs.Passes.{Thriftiest}
use Rattle.trellis.specs.Choices.{chosen}
use Rattle.walk.specs.Walked.{TotalsOf}
use Rattle.walk.specs.declared.Totals.{Totals}

-- above every distortion
abbrev pub no_ceiling : ℕ
no_ceiling = 4294967295

-- scratch as a pass leaves it: as long as it was, and past its first k bytes as it was
pub record Framed (k : ℕ) (before after : List ℕ) : Type 0 where
  pub long : length after ≡ length before
  pub rest : (i : ℕ) → k ≤ i → get_or after i 0 ≡ get_or before i 0

-- the least-rate plan under the ceiling X, if there is one
pub record ThriftyPass (P : Problem) (N Q X : ℕ) (before after : List ℕ) (found : Bool) : Type 0 where
  pub none : found ≡ false → (t : List ℕ) → UnderCeiling P X t → ⊥
  pub some : found ≡ true → Ceiling P X (chosen Q N after)
  pub framed : Framed (scratch_need N Q) before after

-- the plan at n/d, if any sequence is allowed
pub record MultiplierPass (P : Problem) (N Q n d : ℕ) (before after : List ℕ) (found : Bool) : Type 0 where
  pub none : found ≡ false → NoneAllowed P
  pub some : found ≡ true → Multiplier P n d (chosen Q N after)
  pub framed : Framed (scratch_need N Q) before after

-- the end of a call: the chosen sequence is handed over if one was found, and scratch is wiped
pub record Closed (found : Bool) (N Q : ℕ) (plan scratch plan' scratch' : List ℕ) : Type 0 where
  pub handed : plan' ≡ cond found (chosen Q N scratch ++ drop N plan) plan
  pub wiped : scratch' ≡ replicate (scratch_need N Q) 0 ++ drop (scratch_need N Q) scratch

-- the chosen sequence is handed over
pub record Finished (P : Problem) (N Q : ℕ) (plan scratch : List ℕ) (t : Totals) (plan' scratch' : List ℕ) : Type 0 where
  pub totals : TotalsOf P (chosen Q N scratch) t
  pub handed : plan' ≡ chosen Q N scratch ++ drop N plan
  pub wiped : scratch' ≡ replicate (scratch_need N Q) 0 ++ drop (scratch_need N Q) scratch

-- the least-rate plan, by its totals, fits B
pub record ThriftyTotals (P : Problem) (B : ℕ) (t : Totals) : Type 0 where
  pub plan : List ℕ
  pub thriftiest : Thriftiest P plan
  pub totals : TotalsOf P plan t
  pub fits : P.rate plan ≤ B
