-- The fields of a plan's file, and what is read from it. Assumes nothing.
use Rattle.std.specs.Prelude.{◌≡◌, ◌≢◌, Bool, cond, List, [], ◌∷◌, ℕ, ◌≤◌, ◌<◌, eqb, length, get_or, take}
use Rattle.std.proofs.Math.Option.{none}
use Rattle.tables.specs.Law.{allows, law_out}
use Rattle.promise.specs.declared.AveragePlan.{AveragePlan}
use Rattle.promise.specs.declared.MinmaxPlan.{MinmaxPlan}
use Rattle.rules.specs.declared.Fields.{Fields}
use Rattle.blocks.specs.Letters.{qpl2, version_of}
use Rattle.blocks.specs.File.{file_of, entry_at}
use Rattle.planfile.specs.Reading.{fields_of, read_refusal_under, entries}

-- document 02, [5]: byte 13 "is 1 when any weight differs from 1"
abbrev pub mark_of : List ℕ → ℕ
mark_of [] = 0
mark_of (w ∷ weights) = cond (eqb w 1) (mark_of weights) 1

-- some weight differs from 1
abbrev pub SomeOther : List ℕ → Type 0
SomeOther weights = (i : ℕ) × (i < length weights) × (get_or weights i 0 ≢ 1)

-- "kind, 0 average": N, Q, law, B and the weights of the call, and what the plan holds
abbrev pub average_fields : (N Q law B : ℕ) (weights : List ℕ) → AveragePlan → Fields
average_fields N Q law B weights m = record {
  scans = N;
  settings = Q;
  law = law;
  kind = 0;
  budget = B;
  n = m.n;
  d = m.d;
  rate = m.totals.rate;
  distortion = m.totals.distortion;
  peak = m.totals.peak;
  floor = m.floor;
  weighted = mark_of weights;
}

-- "1 minmax"; "Kind 1: n, d and floor are 0."
abbrev pub minmax_fields : (N Q law B : ℕ) (weights : List ℕ) → MinmaxPlan → Fields
minmax_fields N Q law B weights m = record {
  scans = N;
  settings = Q;
  law = law;
  kind = 1;
  budget = B;
  n = 0;
  d = 0;
  rate = m.totals.rate;
  distortion = m.totals.distortion;
  peak = m.totals.peak;
  floor = record { 0 = 0 };
  weighted = mark_of weights;
}

-- what is read from the file that is written of these fields and settings: that it is QPL2, the fields, the first N settings, and no refusal
-- where the settings buffer has room for N; of the law, whether it is none that a file may carry, and a test of it
pub record ReadsBackUnder (lawless : Bool) (test : ℕ → ℕ → Bool) (f : Fields) (settings : List ℕ) : Type 0 where
  pub version : version_of (file_of qpl2 f settings) ≡ qpl2
  pub fields : fields_of (file_of qpl2 f settings) ≡ f
  pub settings_read : entries (entry_at (file_of qpl2 f settings)) 0 f.scans ≡ take f.scans settings
  pub unrefused : (room : ℕ) → f.scans ≤ room → read_refusal_under lawless test (file_of qpl2 f settings) room ≡ none

-- .. with the law by the number that stands in the file
abbrev pub ReadsBack : Fields → List ℕ → Type 0
ReadsBack f settings = let law = (fields_of (file_of qpl2 f settings)).law in ReadsBackUnder (law_out law) (allows law) f settings
