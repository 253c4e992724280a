-- Document 01, "Bench tables": what bench writes. Assumes nothing.
use Rattle.std.specs.Prelude.{◌≡◌, List, [], ◌++◌, ℕ, take, replicate}
use Rattle.tables.specs.declared.refusal.Refusal.{Refusal}
use Rattle.checks.specs.Planning.{Asked, asking}
use Rattle.promise.specs.Promise.{AveragePromise, MinmaxPromise}
use Rattle.printing.specs.Lines as lines
use Rattle.printing.specs.declared.line.Said.TheVariants.{Refused}
use Rattle.workbench.specs.Request.{Request, request, bad_input, out_of_range, too_large, to_plan}

-- what a call with a budget promises: of what it was asked, the lent buffers, its answer, and the buffers after it
abbrev pub PromiseOf : Type 0 → Type 1
PromiseOf Answer = Asked → ℕ → (plan scratch : List ℕ) → Answer → (plan' scratch' : List ℕ) → Type 0

-- the line of a table that is planned: that of some answer of the call, with buffers of zeros, large enough for every table that bench plans;
-- bench has no weights: all are 1
pub record PlannedLine {Answer : Type 0} (promise : PromiseOf Answer) (line_of : Answer → List ℕ → List ℕ) (N Q law B : ℕ)
    (rates distortions line : List ℕ) : Type 0 where
  pub given : Answer
  pub plan : List ℕ
  pub scratch : List ℕ
  pub kept : promise (asking N Q law rates distortions (replicate N 1) 1024 4096) B (replicate 1024 0) (replicate 4096 0) given plan scratch
  pub written : line ≡ line_of given (take N plan)

-- the first line, of the average call
abbrev pub AveLine : (N Q law B : ℕ) (rates distortions line : List ℕ) → Type 0
AveLine = PlannedLine AveragePromise lines.ave_line

-- the second, of the minmax call
abbrev pub MinmaxLine : (N Q law B : ℕ) (rates distortions line : List ℕ) → Type 0
MinmaxLine = PlannedLine MinmaxPromise lines.minmax_line

-- ""too large" and "bad input" stand alone as the only line."
pub data WrittenFor : Request → List ℕ → Type 0 where
  alone_bad : WrittenFor bad_input lines.bad_input
  alone_large : WrittenFor too_large lines.too_large
  -- "it prints the refusal on both lines"
  both_refused : (r : Refusal) → WrittenFor (out_of_range r) (lines.line lines.ave (Refused r) [] ++ lines.line lines.minmax (Refused r) [])
  both_planned : (N Q law B : ℕ) (rates distortions first second : List ℕ) → AveLine N Q law B rates distortions first →
      MinmaxLine N Q law B rates distortions second → WrittenFor (to_plan N Q law B rates distortions) (first ++ second)

-- what bench writes for a text
abbrev pub Writes : List ℕ → List ℕ → Type 0
Writes text out = WrittenFor (request text) out
