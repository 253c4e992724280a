-- What the parts of an import leave each other. Assumes nothing.
use Rattle.std.specs.Prelude.{◌≡◌, cond, List, ℕ, ◌≤◌, ◌<◌, length, get_or}
use Rattle.std.proofs.Math.Option.{Option, none}
use Rattle.tables.specs.declared.refusal.Refusal.{Refusal}
use Rattle.lines.specs.declared.says.Entry.{Entry}
use Rattle.imports.specs.Import.{member, fault, seen_with}

-- scratch marks the cells that were named: 1 where one was, and 0
abbrev pub Marks : ℕ → List ℕ → List ℕ → Type 0
Marks k scratch seen = (c : ℕ) → c < k → get_or scratch c 0 ≡ cond (member c seen) 1 0

-- as long as it was, and past its first k bytes as it was
pub record KeptBehind (k : ℕ) (before after : List ℕ) : Type 0 where
  pub long : length after ≡ length before
  pub rest : (i : ℕ) → k ≤ i → get_or after i 0 ≡ get_or before i 0

-- one line was judged
pub record LineJudged (N Q k cells : ℕ) (said : Option Entry) (before after : List ℕ) (ends : Option Refusal) : Type 0 where
  pub found : (seen : List ℕ) → Marks cells before seen → ends ≡ fault N Q k seen said
  pub marked : (seen : List ℕ) → Marks cells before seen → ends ≡ none → Marks cells after (seen_with Q said seen)
  pub kept : KeptBehind cells before after
