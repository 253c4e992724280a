-- What the parts of bench's answer say. Assumes nothing.
use Rattle.std.specs.Prelude.{◌≡◌, false, Result, Ok, Err, List, [], ◌∷◌, ◌++◌, ℕ, ◌+◌, ◌≤◌, ◌<◌, length, get_or, take, drop, replicate}
use Rattle.std.specs.Borrow.{Bor, MutBor}
use Rattle.std.proofs.Math.Option.{Option, none, some}
use Rattle.tables.specs.declared.refusal.Refusal.{Refusal}
use Rattle.tables.specs.Tables.{cells}
use Rattle.checks.specs.Planning.{scans_out}
use Rattle.checks.specs.declared.lent.Tables.{Tables}
use Rattle.laws.specs.Put.{Put}
use Rattle.printing.specs.Lines as lines
use Rattle.printing.specs.declared.line.Said.{Said}
use Rattle.printing.specs.declared.put.Text.{Text}
use Rattle.reading.specs.Fed.{Fed}
use Rattle.reading.specs.declared.State.{State}
use Rattle.workbench.specs.Request.{Request, request, bad_input, out_of_range, too_large, to_plan, range_refusal, most_cells}
use Rattle.workbench.specs.Written.{WrittenFor}
use Rattle.workbench.specs.declared.judge.Unplanned.{Unplanned}
use Rattle.workbench.specs.declared.judge.Unplanned.TheVariants as unplanned

-- the first four numbers: "N Q law B"
abbrev pub scans : List ℕ → ℕ
scans n = get_or n 0 0

abbrev pub settings : List ℕ → ℕ
settings n = get_or n 1 0

abbrev pub law : List ℕ → ℕ
law n = get_or n 2 0

abbrev pub budget : List ℕ → ℕ
budget n = get_or n 3 0

abbrev pub out_by : List ℕ → Option Refusal
out_by n = range_refusal (scans n) (settings n) (law n)

-- the tables, each of this many cells, after the first four numbers
abbrev pub rates : List ℕ → ℕ → List ℕ
rates n k = take k (drop 4 n)

abbrev pub distortions : List ℕ → ℕ → List ℕ
distortions n k = take k (drop (4 + k) n)

-- what the numbers ask, where they are those of two tables of k cells
abbrev pub plan_requested : List ℕ → ℕ → Request
plan_requested n k = to_plan (scans n) (settings n) (law n) (budget n) (rates n k) (distortions n k)

-- a table that is planned
pub record Planable (n : List ℕ) (k : ℕ) : Type 0 where
  pub in_range : out_by n ≡ none
  pub scans_in : scans_out (scans n) ≡ false
  pub counted : k ≡ cells (scans n) (settings n)
  pub few : k ≤ most_cells

-- what the first four numbers settle; that they are bad input they never say
abbrev pub Heads : List ℕ → Result ℕ Unplanned → Type 0
Heads n (Err unplanned.BadInput) = ⊥
Heads n (Err (unplanned.OutOfRange r)) = out_by n ≡ some r
Heads n (Err unplanned.TooLarge) = (out_by n ≡ none) × (most_cells < cells (scans n) (settings n))
Heads n (Ok k) = Planable n k

-- whatever text was read, this is asked; a separator has ended it
abbrev pub Requests : List ℕ → State → Request → Type 0
Requests n s a = (text : List ℕ) → Fed (text ++ (32 ∷ [])) n s → request text ≡ a

abbrev pub VerdictOf : List ℕ → State → Result ℕ Unplanned → Type 0
VerdictOf n s (Err unplanned.BadInput) = Requests n s bad_input
VerdictOf n s (Err (unplanned.OutOfRange r)) = Requests n s (out_of_range r)
VerdictOf n s (Err unplanned.TooLarge) = Requests n s too_large
VerdictOf n s (Ok k) = Planable n k × Requests n s (plan_requested n k)

-- the line of what a call says that is lent these tables and buffers of zeros; `call` relates what it is lent to its answer and to what it leaves
-- in the buffers, and `says` the answer to what is said of it
pub record CallLine {Answer : Type 0} (call : Bor Tables → (budget : ℕ) → (plan scratch : MutBor (List ℕ)) → Answer → (plan' scratch' : MutBor (List ℕ)) → Type 0)
    (says : Answer → Said → Type 0) (t : Tables) (budget : ℕ) (word line : List ℕ) : Type 0 where
  pub lent : Bor Tables
  pub plan : MutBor (List ℕ)
  pub scratch : MutBor (List ℕ)
  pub given : Answer
  pub plan' : MutBor (List ℕ)
  pub scratch' : MutBor (List ℕ)
  pub said : Said
  pub tables_lent : lent.now ≡ t
  pub plan_lent : plan.now ≡ replicate 1024 0
  pub scratch_lent : scratch.now ≡ replicate 4096 0
  pub kept : call lent budget plan scratch given plan' scratch'
  pub says_so : says given said
  pub written : line ≡ lines.line word said (take t.scans plan'.now)

-- the line that was put is right, and it leaves room for the other
pub record RightLine (Right : List ℕ → Type 0) (before : List ℕ) (at : ℕ) (after : List ℕ) (r : ℕ) : Type 0 where
  pub line : List ℕ
  pub right : Right line
  pub put : Put before at line after r
  pub short : r ≤ at + 4352

-- the first r bytes are what is written for this
abbrev pub Holds : Request → ℕ → List ℕ → Type 0
Holds a r out = (r ≤ length out) × WrittenFor a (take r out)

-- a buffer with room for both lines, into which nothing was put so far
abbrev pub Blank : Text → Type 0
Blank t = (t.at ≡ 0) × (8704 ≤ length t.out.now)

-- what was put into it is what is written for this
pub record WrittenIn (a : Request) (before after : Text) : Type 0 where
  pub same_buffer : after.out.ghost_name ≡ before.out.ghost_name
  pub holds : Holds a after.at after.out.now
