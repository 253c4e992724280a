-- What the legality check answers. Assumes nothing.
use Rattle.std.proofs.Math.Option.{Option, none, some}
use Rattle.std.specs.Prelude.{List, ℕ, ◌≤◌, ◌<◌}
use Rattle.tables.specs.declared.refusal.Refusal.{Refusal}
use Rattle.tables.specs.declared.refusal.Refusal.TheVariants as refusal
use Rattle.tables.specs.Legal.{LegalCell, AllLegal, LowestIllegal}

-- check 7 came out as this, where `weigh` gives the weight of each cell: every cell is legal, or this is the lowest that is not
pub data Judged (weigh : ℕ → ℕ) (rates distortions : List ℕ) : Option Refusal → Type 0 where
  all_legal : AllLegal weigh rates distortions → Judged weigh rates distortions none
  not_legal : {k : ℕ} → LowestIllegal weigh rates distortions k → Judged weigh rates distortions (some (refusal.Cell k))

-- the cells from one number up to another are legal
abbrev pub LegalRun : (weigh : ℕ → ℕ) (rates distortions : List ℕ) (from to : ℕ) → Type 0
LegalRun weigh rates distortions from to = (k : ℕ) → from ≤ k → k < to → LegalCell weigh rates distortions k

-- cell k is the lowest of them that is not
pub record LowestInRun (weigh : ℕ → ℕ) (rates distortions : List ℕ) (from to k : ℕ) : Type 0 where
  pub behind : from ≤ k
  pub inside : k < to
  pub illegal : LegalCell weigh rates distortions k → ⊥
  pub lowest : LegalRun weigh rates distortions from k

-- a run of cells came out as this
pub data RunJudged (weigh : ℕ → ℕ) (rates distortions : List ℕ) (from to : ℕ) : Option Refusal → Type 0 where
  run_legal : LegalRun weigh rates distortions from to → RunJudged weigh rates distortions from to none
  run_illegal : {k : ℕ} → LowestInRun weigh rates distortions from to k → RunJudged weigh rates distortions from to (some (refusal.Cell k))
