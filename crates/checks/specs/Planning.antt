-- When a planning call is refused (document 01, "Numbers a caller can get back"). Assumes nothing.
use Rattle.std.specs.Prelude.{◌≡◌, Bool, not, ◌||◌, List, [], ◌∷◌, ◌++◌, ℕ, eqb, ltb, length}
use Rattle.std.proofs.Math.Option.{Option, none, some}
use Rattle.criteria.specs.Choice.{Problem}
use Rattle.tables.specs.declared.refusal.Refusal.{Refusal}
use Rattle.tables.specs.declared.refusal.Refusal.TheVariants as refusal
use Rattle.tables.specs.Limits.{most_scans, most_settings, most_term, most_channels}
use Rattle.tables.specs.Law.{Law, law_of, law_out}
use Rattle.tables.specs.Tables.{Table, cells, scratch_need, table_under, planning}
use Rattle.tables.specs.Legal.{weights_by_scan, AllLegal, LowestIllegal}
use Rattle.checks.specs.Checks.{zero_or_over, when, first_refusal}

-- 1: "N is 0 or over 1,024"
abbrev pub scans_out : ℕ → Bool
scans_out N = zero_or_over most_scans N

-- 2: "Q is 0 or over 16"
abbrev pub settings_out : ℕ → Bool
settings_out Q = zero_or_over most_settings Q

-- 4: "n or d outside its range": "n from 0 and d from 1, both at most 1,073,741,823"
abbrev pub multiplier_out : ℕ → ℕ → Bool
multiplier_out n d = ltb most_term n || zero_or_over most_term d

-- 5: "rate or distortion table not of the exact length"
abbrev pub lengths_out : ℕ → ℕ → List ℕ → List ℕ → Bool
lengths_out N Q rates distortions = not (eqb (length rates) (cells N Q)) || not (eqb (length distortions) (cells N Q))

-- document 02, [5]: "5 also covers a weight slice that is not N long"
abbrev pub weights_out : ℕ → List ℕ → Bool
weights_out N weights = not (eqb (length weights) N)

-- 6: "a lent buffer shorter than needed": "Plan buffers need N bytes and scratch N × Q"
abbrev pub buffers_short : ℕ → ℕ → ℕ → ℕ → Bool
buffers_short N Q plan scratch = ltb plan N || ltb scratch (scratch_need N Q)

-- 10: "C is 0 or over 1,048,576"
abbrev pub channels_out : ℕ → Bool
channels_out C = zero_or_over most_channels C

-- 1, 2 and 3, where a call takes at most `most` scans and `lawless` says that the law is none of those that it takes
abbrev pub range_checks : (most N Q : ℕ) (lawless : Bool) → List (Option Refusal)
range_checks most N Q lawless =
    when (zero_or_over most N) refusal.Scans ∷ when (settings_out Q) refusal.Settings ∷ when lawless refusal.StepLaw ∷ []

-- "Planning checks in the order 1 to 9 (4 only for a multiplier call ..)": those that look at numbers and lengths. `further` is the check
-- between 3 and 5 that a call may have; `lengths` and `short` say that 5 and 6 fail.
abbrev pub front_checks : (most N Q : ℕ) (lawless : Bool) → Option Refusal → (lengths : Bool) → List (Option Refusal)
front_checks most N Q lawless further lengths = range_checks most N Q lawless ++ (further ∷ when lengths refusal.Lengths ∷ [])

-- 1, 2, 3 and 5 of a call that has no weights
abbrev pub plain_checks : (N Q : ℕ) (lawless : Bool) (rates distortions : List ℕ) → List (Option Refusal)
plain_checks N Q lawless rates distortions = front_checks most_scans N Q lawless none (lengths_out N Q rates distortions)

abbrev pub planning_checks : (most N Q : ℕ) (lawless : Bool) → Option Refusal → (lengths short : Bool) → List (Option Refusal)
planning_checks most N Q lawless further lengths short = front_checks most N Q lawless further lengths ++ (when short refusal.Buffer ∷ [])

-- What a planning call is asked, but for its limit: the numbers, the tables, the weights and the lengths of the lent buffers. Of its law it
-- holds which pairs it allows, and whether it is none of those that the call takes; no number, so what is said of questions is said of any law.
pub record Asked : Type 1 where
  pub N : ℕ
  pub Q : ℕ
  pub lawless : Bool
  pub law : Law
  pub rates : List ℕ
  pub distortions : List ℕ
  pub weights : List ℕ
  pub plan : ℕ
  pub scratch : ℕ

abbrev pub asking_under : (lawless : Bool) (law : Law) (N Q : ℕ) (rates distortions weights : List ℕ) (plan scratch : ℕ) → Asked
asking_under lawless law N Q rates distortions weights plan scratch = record {
  N = N;
  Q = Q;
  lawless = lawless;
  law = law;
  rates = rates;
  distortions = distortions;
  weights = weights;
  plan = plan;
  scratch = scratch;
}

-- .. with its law by number
abbrev pub asking : (N Q law : ℕ) (rates distortions weights : List ℕ) (plan scratch : ℕ) → Asked
asking N Q law rates distortions weights plan scratch = asking_under (law_out law) (law_of law) N Q rates distortions weights plan scratch

abbrev pub table_of : Asked → Table
table_of a = table_under a.law a.N a.Q a.rates a.distortions a.weights

abbrev pub problem_of : Asked → Problem
problem_of a = planning (table_of a)

-- check 4 of a multiplier call; every other call has none there
abbrev pub fourth_check : ℕ → ℕ → Option Refusal
fourth_check n d = when (multiplier_out n d) refusal.Multiplier

-- check 5 of a question
abbrev pub sizes_out : Asked → Bool
sizes_out a = lengths_out a.N a.Q a.rates a.distortions || weights_out a.N a.weights

-- the first refusal of the checks 1 to 6, where a call takes at most `most` scans and `short` says that 6 fails
unfoldable pub first_early : (most : ℕ) → Option Refusal → (short : Bool) → Asked → Option Refusal
first_early most further short a = first_refusal (planning_checks most a.N a.Q a.lawless further (sizes_out a) short)

-- .. of the four calls: at most 1,024 scans, and the two buffers of a pass
abbrev pub early_refusal : Option Refusal → Asked → Option Refusal
early_refusal further a = first_early most_scans further (buffers_short a.N a.Q a.plan a.scratch) a

-- the weight of each cell
abbrev pub weigh_of : Asked → ℕ → ℕ
weigh_of a = weights_by_scan a.Q a.weights

-- one of the checks 1 to 7 fails, and this is the refusal of the first that does
pub data UnsoundBy (most : ℕ) (further : Option Refusal) (short : Bool) (a : Asked) : Refusal → Type 0 where
  early : {r : Refusal} → first_early most further short a ≡ some r → UnsoundBy most further short a r
  illegal : {k : ℕ} → first_early most further short a ≡ none → LowestIllegal (weigh_of a) a.rates a.distortions k →
      UnsoundBy most further short a (refusal.Cell k)

-- none of the checks 1 to 7 fails
pub record SoundBy (most : ℕ) (further : Option Refusal) (short : Bool) (a : Asked) : Type 0 where
  pub passed : first_early most further short a ≡ none
  pub legal : AllLegal (weigh_of a) a.rates a.distortions

-- both, of the four calls
abbrev pub Unsound : Option Refusal → Asked → Refusal → Type 0
Unsound further a = UnsoundBy most_scans further (buffers_short a.N a.Q a.plan a.scratch) a

abbrev pub Sound : Option Refusal → Asked → Type 0
Sound further a = SoundBy most_scans further (buffers_short a.N a.Q a.plan a.scratch) a
