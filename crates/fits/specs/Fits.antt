-- Document 02, [7], "Can it fit at all?", quickly: which scans are read, and what the call promises. Assumes nothing.
use Rattle.std.specs.Prelude.{◌≡◌, Bool, true, false, Result, Ok, Err, List, [], ◌∷◌, ℕ, suc, ◌<◌}
use Rattle.std.proofs.Math.Option.{Option, none, some}
use Rattle.criteria.specs.Choice.{Problem, InBudget}
use Rattle.tables.specs.declared.refusal.Refusal.{Refusal}
use Rattle.tables.specs.declared.refusal.Refusal.TheVariants as refusal
use Rattle.tables.specs.Refusals.{Reply, refused, answered}
use Rattle.tables.specs.Law.{Law, law_of, law_out}
use Rattle.tables.specs.Series.{Series, Way}
use Rattle.tables.specs.Tables.{Table, table_under, series, planning, scan_start}
use Rattle.tables.specs.Legal.{AllLegal, no_weights}
use Rattle.legal.specs.Judged.{LegalRun, LowestInRun}
use Rattle.checks.specs.Checks.{first_refusal}
use Rattle.checks.specs.Planning.{plain_checks}

-- What is asked: "whether some plan fits B". Of its law a question holds which pairs it allows, and whether it is none of those that the call
-- takes; no number, so what is said of questions is said of any law.
pub record Question : Type 1 where
  pub N : ℕ
  pub Q : ℕ
  pub lawless : Bool
  pub law : Law
  pub budget : ℕ
  pub rates : List ℕ
  pub distortions : List ℕ

abbrev pub question_under : (lawless : Bool) (law : Law) (N Q B : ℕ) (rates distortions : List ℕ) → Question
question_under lawless law N Q B rates distortions =
    record { N = N; Q = Q; lawless = lawless; law = law; budget = B; rates = rates; distortions = distortions }

-- .. with its law by number
abbrev pub question : (N Q law B : ℕ) (rates distortions : List ℕ) → Question
question N Q law B rates distortions = question_under (law_out law) (law_of law) N Q B rates distortions

-- "It takes no scratch and no weights": neither what may be taken nor what it costs in rate depends on a weight
abbrev pub table_asked : Question → Table
table_asked a = table_under a.law a.N a.Q a.rates a.distortions []

abbrev pub series_asked : Question → Series
series_asked a = series (table_asked a)

abbrev pub problem_asked : Question → Problem
problem_asked a = planning (table_asked a)

-- an "allowed beginning of k scans" that has no "rate over B": k settings below Q that use no forbidden cell and keep the law, whatever may
-- follow them
abbrev pub Beginning : Question → ℕ → List ℕ → Type 0
Beginning a k s = Way (series_asked a) k 0 0 a.budget s

-- the cells of scan k, in both tables, are legal
abbrev pub LegalScan : Question → ℕ → Type 0
LegalScan a k = LegalRun no_weights a.rates a.distortions (scan_start a.Q k) (scan_start a.Q (suc k))

-- cell c is "that scan's lowest" illegal one
abbrev pub LowestOfScan : Question → (k c : ℕ) → Type 0
LowestOfScan a k c = LowestInRun no_weights a.rates a.distortions (scan_start a.Q k) (scan_start a.Q (suc k)) c

-- "The head should stop as soon as every allowed beginning of k scans has a rate over B, or none exists, and read no further.": scan k is read
-- exactly where one of k scans has not. "Each scan is checked before it is counted": nor is there an illegal cell before it. (A beginning of no
-- scans has rate 0, so scan 0 is read.)
pub record IsRead (a : Question) (k : ℕ) : Type 0 where
  pub inside : k < a.N
  pub legal : (j : ℕ) → j < k → LegalScan a j
  pub beginning : List ℕ
  pub within : Beginning a k beginning

-- "Refusals: 1, 2, 3, 5, 7 in that order": the first of those before 7
unfoldable pub fits_refusal : Question → Option Refusal
fits_refusal a = first_refusal (plain_checks a.N a.Q a.lawless a.rates a.distortions)

-- "an illegal cell in one that is read gives 7 with that scan's lowest"
pub record Seven (a : Question) (c : ℕ) : Type 0 where
  pub passed : fits_refusal a ≡ none
  pub scan : ℕ
  pub read : IsRead a scan
  pub lowest : LowestOfScan a scan c

-- "stop as soon as every allowed beginning of k scans has a rate over B, or none exists"; "later ones leave the answer no": `scan` is the last
-- that is read
pub record NoneFits (a : Question) : Type 0 where
  pub passed : fits_refusal a ≡ none
  pub scan : ℕ
  pub read : IsRead a scan
  pub legal : LegalScan a scan
  pub over : (s : List ℕ) → Beginning a (suc scan) s → ⊥

-- "some plan fits B"
pub record OneFits (a : Question) : Type 0 where
  pub passed : fits_refusal a ≡ none
  pub legal : AllLegal no_weights a.rates a.distortions
  pub plan : List ℕ
  pub within : InBudget (problem_asked a) a.budget plan

-- the number and the value of the answer: 1 is yes, 0 is no
abbrev pub says_yes : Reply
says_yes = answered (1 ∷ [])

abbrev pub says_no : Reply
says_no = answered (0 ∷ [])

-- what the call answers, in code
abbrev pub FitsAnswer : Type 0
FitsAnswer = Result Bool Refusal

abbrev pub fits_reply : FitsAnswer → Reply
fits_reply (Ok true) = says_yes
fits_reply (Ok false) = says_no
fits_reply (Err r) = refused r

-- The promise of the call, by cases.
pub data FitsPromise (a : Question) : Reply → Type 0 where
  early : {r : Refusal} → fits_refusal a ≡ some r → FitsPromise a (refused r)
  seven : {c : ℕ} → Seven a c → FitsPromise a (refused (refusal.Cell c))
  none_fits : NoneFits a → FitsPromise a says_no
  one_fits : OneFits a → FitsPromise a says_yes
