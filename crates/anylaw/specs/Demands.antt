-- Document 02, [2]: "Prove demands 2 and 3 once over any law, a law being only a statement of which pairs it allows." What the two demands say
-- under one law, of which a test is known and nothing else. Assumes nothing.
use Rattle.promise.specs.Answers.{PlanAnswer, MinmaxAnswer, AverageAnswer}
use Rattle.std.specs.Prelude.{Ok}
use Rattle.std.specs.Prelude.{◌≡◌, Bool, List, ℕ, ◌≤◌, ◌<◌, ◌^◌, ltb, length, get_or}
use Rattle.std.proofs.Math.Option.{none}
use Rattle.criteria.specs.Choice.{UnderCeiling, InBudget}
use Rattle.tables.specs.declared.refusal.Refusal.TheVariants as refusal
use Rattle.tables.specs.Law.{Law}
use Rattle.checks.specs.Checks.{when}
use Rattle.checks.specs.Planning.{Asked, asking_under, problem_of, fourth_check}
use Rattle.promise.specs.declared.MinmaxPlan.{MinmaxPlan}
use Rattle.promise.specs.declared.AveragePlan.{AveragePlan}
use Rattle.promise.specs.Promise.{plan_reply, minmax_reply, average_reply, CeilingPromise, MultiplierPromise, MinmaxPromise, AveragePromise}
use Rattle.promise.specs.Says.{SomeAnswer, SaysExactly, Answered}
use Rattle.rules.specs.declared.Fields.{Fields}
use Rattle.blocks.specs.Letters.{Known, version_of}
use Rattle.blocks.specs.File.{InVersion, file_length, file_of, entry_at}
use Rattle.entries.specs.Entries.{KeepsLaw}
use Rattle.planfile.specs.Reading.{fields_of, entries, read_refusal_under}
use Rattle.planfile.specs.Writing.{write_refusal_under}
use Rattle.filing.specs.Filing.{average_fields, minmax_fields, ReadsBackUnder}

-- a promise is true of one answer, with what it leaves in the two lent buffers, and of no other
pub record OneAnswer {Answer : Type 0} (promise : Answer → List ℕ → List ℕ → Type 0) : Type 0 where
  pub some : SomeAnswer promise
  pub only : (answer : Answer) (plan scratch : List ℕ) → promise answer plan scratch →
      (some.answer ≡ answer) × (some.plan ≡ plan) × (some.scratch ≡ scratch)

-- Demand 2 of a question: "A plan is the best of all allowed sequences, and of equals the stated one. 'None within the limit' and 'none at all'
-- are said exactly when true." (What is best, and which of equals, is in the promises; that the calls give these answers is their contract.)
pub record AnswersRight (a : Asked) (plan scratch : List ℕ) : Type 0 where
  pub ceiling : (X : ℕ) → OneAnswer (CeilingPromise a X plan scratch)
  pub multiplier : (n d : ℕ) → OneAnswer (MultiplierPromise a n d plan scratch)
  pub minmax : (B : ℕ) → OneAnswer (MinmaxPromise a B plan scratch)
  pub average : (B : ℕ) → OneAnswer (AveragePromise a B plan scratch)
  pub ceiling_says : (X : ℕ) {p s : List ℕ} (r : PlanAnswer) → CeilingPromise a X plan scratch r p s → SaysExactly none a (UnderCeiling (problem_of a) X) (plan_reply r)
  pub multiplier_says : (n d : ℕ) {p s : List ℕ} (r : PlanAnswer) → MultiplierPromise a n d plan scratch r p s →
      SaysExactly (fourth_check n d) a (problem_of a).allowed (plan_reply r)
  pub minmax_says : (B : ℕ) {p s : List ℕ} (r : MinmaxAnswer) → MinmaxPromise a B plan scratch r p s → SaysExactly none a (InBudget (problem_of a) B) (minmax_reply r)
  pub average_says : (B : ℕ) {p s : List ℕ} (r : AverageAnswer) → AveragePromise a B plan scratch r p s → SaysExactly none a (InBudget (problem_of a) B) (average_reply r)

-- The settings of an accepted file keep the law. Its letters are QPL1 or QPL2, that version can hold the plan that is read from it (the mark of
-- weights is QPL2's), it is the file of that plan in that version, and the writer takes the plan; so in QPL2 it is the file that the writer
-- writes.
pub record IsPlansFile (lawless : Bool) (law : Law) (test : ℕ → ℕ → Bool) (file : List ℕ) : Type 0 where
  pub keeps : KeepsLaw law (fields_of file).scans (fields_of file).settings (entry_at file)
  pub known : Known (version_of file)
  pub held : InVersion (version_of file) (fields_of file)
  pub same : file_of (version_of file) (fields_of file) (entries (entry_at file) 0 (fields_of file).scans) ≡ file
  pub written : (room : ℕ) → file_length (fields_of file).scans ≤ room →
      write_refusal_under lawless test (fields_of file) (entries (entry_at file) 0 (fields_of file).scans) room ≡ none

-- a plan is refused by the writer for want of room alone, and its file reads back
pub record HasFile (lawless : Bool) (test : ℕ → ℕ → Bool) (f : Fields) (settings : List ℕ) : Type 0 where
  pub written : (room : ℕ) → write_refusal_under lawless test f settings room ≡ when (ltb room (file_length f.scans)) refusal.Buffer
  pub reads_back : ReadsBackUnder lawless test f settings

-- Demands 2 and 3 under a law with its test. `lawless` says that a call or a file does not take the law, and `number` is what stands for it in a
-- file.
pub record DemandsHold (law : Law) (test : ℕ → ℕ → Bool) : Type 0 where
  -- demand 2, of every question
  pub answers : (lawless : Bool) (N Q : ℕ) (rates distortions weights plan scratch : List ℕ) →
      AnswersRight (asking_under lawless law N Q rates distortions weights (length plan) (length scratch)) plan scratch
  -- demand 3, of every average plan that is given
  pub proves : (lawless : Bool) (N Q : ℕ) (rates distortions weights plan scratch : List ℕ) (B : ℕ) {p s : List ℕ} (m : AveragePlan) →
      AveragePromise (asking_under lawless law N Q rates distortions weights (length plan) (length scratch)) B plan scratch (Ok m) p s →
      Answered (asking_under lawless law N Q rates distortions weights (length plan) (length scratch)) B m plan p
  -- what is written keeps the law
  pub writes : (lawless : Bool) (f : Fields) (settings : List ℕ) (room : ℕ) → write_refusal_under lawless test f settings room ≡ none →
      KeepsLaw law f.scans f.settings (λ j. get_or settings j 0)
  -- "A written file reads back as the same plan"
  pub reads_back : (lawless : Bool) (f : Fields) (settings : List ℕ) (room : ℕ) → write_refusal_under lawless test f settings room ≡ none →
      f.law < 256 → f.budget < 2 ^ 64 → ReadsBackUnder lawless test f settings
  -- "every accepted file is the one its plan would be written as": of QPL2; of QPL1, the one its plan has in QPL1
  pub accepts : (lawless : Bool) (file : List ℕ) (room : ℕ) → ((i : ℕ) → get_or file i 0 < 256) → read_refusal_under lawless test file room ≡ none →
      IsPlansFile lawless law test file
  -- and every plan that is given with a budget has a file
  pub files_average : (lawless : Bool) (N Q : ℕ) (rates distortions weights plan scratch : List ℕ) (B number : ℕ) {p s : List ℕ} (m : AveragePlan) →
      AveragePromise (asking_under lawless law N Q rates distortions weights (length plan) (length scratch)) B plan scratch (Ok m) p s →
      number < 256 → B < 2 ^ 64 → HasFile lawless test (average_fields N Q number B weights m) p
  pub files_minmax : (lawless : Bool) (N Q : ℕ) (rates distortions weights plan scratch : List ℕ) (B number : ℕ) {p s : List ℕ} (m : MinmaxPlan) →
      MinmaxPromise (asking_under lawless law N Q rates distortions weights (length plan) (length scratch)) B plan scratch (Ok m) p s →
      number < 256 → B < 2 ^ 64 → HasFile lawless test (minmax_fields N Q number B weights m) p
