-- The walk over a run of cells: what it knows after some of them, and what follows at its end. Assumes nothing.
use mathlib.Core.Path.{◌≡◌, refl}
use mathlib.Core.Logic.{◌⊎◌, inl, inr, ◌≢◌}
use mathlib.Core.List.{List}
use mathlib.Core.Option.{Option, none, some}
use Prim.Native.Nat.{ℕ, suc, ◌+◌, ◌≤◌, ◌<◌, min}
use native.Mathlib.Omega.{arith}
use lib.ListN.{length, get_or}
use Rattle.laws.proofs.Tests.{never}
use Rattle.tables.specs.Legal.{LegalCell}
use Rattle.tables.specs.declared.refusal.Refusal.{Refusal}
use Rattle.legal.specs.Judged.{Judged, all_legal, not_legal, LegalRun, LowestInRun, RunJudged, run_legal, run_illegal}
use Rattle.legal.specs.Parts.{no_cell, IfIllegal}
use Rattle.legal.proofs.LegalLaws.{legal?, legal_more, lowest_next, lowest_more, legal_on, lowest_on, all_of_run, lowest_of_run}

module _ (weigh : ℕ → ℕ) (rates distortions : List ℕ) where
  -- what is kept of the first n cells of a run: "no cell", or how far into it the lowest illegal one stands
  pub data KeptSoFar (from n : ℕ) : ℕ → Type 0 where
    none_kept : LegalRun weigh rates distortions from (from + n) → KeptSoFar from n no_cell
    one_kept : {far : ℕ} → LowestInRun weigh rates distortions from (from + n) (from + far) → KeptSoFar from n far

  pub none_yet : (from : ℕ) → KeptSoFar from 0 no_cell
  none_yet from = none_kept (λ k g h. absurd (omega arith))

  -- one cell more, and the lesser of what was kept and what is kept of that cell
  pub one_cell_more : {from n lowest r : ℕ} → n < no_cell → KeptSoFar from n lowest →
      IfIllegal (weigh (from + n)) (get_or rates (from + n) 0) (get_or distortions (from + n) 0) n r → KeptSoFar from (n + 1) (min lowest r)
  one_cell_more {from} {n} {r = r} h w v = of w (legal? weigh rates distortions (from + n))
    where
      next : from + (n + 1) ≡ suc (from + n)
      next = omega arith

      -- the lesser of what was kept, where that was an illegal cell, is that one still
      still : {far : ℕ} → LowestInRun weigh rates distortions from (from + n) (from + far) → min far r ≡ far → KeptSoFar from (n + 1) (min far r)
      still {far} p e = rw e (one_kept {far = far} (rw next (lowest_more weigh rates distortions p)))

      of : {lowest : ℕ} → KeptSoFar from n lowest → LegalCell weigh rates distortions (from + n) ⊎ (LegalCell weigh rates distortions (from + n) → ⊥) → KeptSoFar from (n + 1) (min lowest r)
      of (none_kept l) (inl c) = let e : min no_cell r ≡ no_cell = omega (arith, v.legal c) in rw e (none_kept (rw next (legal_more weigh rates distortions l c)))
      of (none_kept l) (inr c) = let e : min no_cell r ≡ n = omega (arith, v.illegal c) in rw e (one_kept {far = n} (rw next (lowest_next weigh rates distortions (omega arith) l c)))
      of (one_kept p) (inl c) = still p (omega (arith, v.legal c, p.inside))
      of (one_kept p) (inr c) = still p (omega (arith, v.illegal c, p.inside))

  -- at the end of the run: no cell was kept, or one was
  pub run_all_legal : {from to n lowest : ℕ} → KeptSoFar from n lowest → to ≡ from + n → n ≤ no_cell → lowest ≡ no_cell → RunJudged weigh rates distortions from to none
  run_all_legal (none_kept l) e h g = run_legal (rw e l)
  run_all_legal (one_kept p) e h g = absurd (omega (arith, p.inside))

  pub run_lowest : {from to n lowest : ℕ} → KeptSoFar from n lowest → to ≡ from + n → lowest ≢ no_cell → LowestInRun weigh rates distortions from to (from + lowest)
  run_lowest (none_kept l) e h = absurd (h refl)
  run_lowest (one_kept p) e h = rw e p

  -- behind legal cells a run ends the walk, or takes it on
  pub walk_stops : {from to : ℕ} {r : Refusal} → to ≤ length rates → LegalRun weigh rates distortions 0 from → RunJudged weigh rates distortions from to (some r) →
      Judged weigh rates distortions (some r)
  walk_stops {from} {to} {r} h l j = of j refl
    where
      of : {o : Option Refusal} → RunJudged weigh rates distortions from to o → o ≡ some r → Judged weigh rates distortions o
      of (run_legal m) g = never cc
      of (run_illegal p) g = not_legal (lowest_of_run weigh rates distortions h (lowest_on weigh rates distortions (omega arith) l p))

  pub walk_goes_on : {from to : ℕ} → LegalRun weigh rates distortions 0 from → RunJudged weigh rates distortions from to none → LegalRun weigh rates distortions 0 to
  walk_goes_on {from} {to} l j = of j refl
    where
      of : {o : Option Refusal} → RunJudged weigh rates distortions from to o → o ≡ none → LegalRun weigh rates distortions 0 to
      of (run_legal m) g = legal_on weigh rates distortions l m
      of (run_illegal p) g = never cc

  pub walk_ends : {from : ℕ} → length rates ≤ from → LegalRun weigh rates distortions 0 from → Judged weigh rates distortions none
  walk_ends h l = all_legal (all_of_run weigh rates distortions h l)

-- a run of cells whose weights are the same has the same answer
module _ (rates distortions : List ℕ) where
  pub run_weighs : {weigh weigh' : ℕ → ℕ} {from to : ℕ} {o : Option Refusal} → ((k : ℕ) → from ≤ k → k < to → weigh k ≡ weigh' k) →
      RunJudged weigh rates distortions from to o → RunJudged weigh' rates distortions from to o
  run_weighs same (run_legal l) = run_legal (λ k h g. rw (same k h g) at (l k h g))
  run_weighs same (run_illegal {k} p) = run_illegal (record {
    behind = p.behind;
    inside = p.inside;
    illegal = λ l. p.illegal (rw (same k p.behind p.inside) l);
    lowest = λ j h g. rw (same j h (omega (arith, p.inside))) at (p.lowest j h g);
  })

-- all cells in one run
pub whole_run : (weigh : ℕ → ℕ) (rates distortions : List ℕ) {o : Option Refusal} →
    RunJudged weigh rates distortions 0 (length rates) o → Judged weigh rates distortions o
whole_run weigh rates distortions (run_legal l) = all_legal (all_of_run weigh rates distortions (omega arith) l)
whole_run weigh rates distortions (run_illegal p) = not_legal (lowest_of_run weigh rates distortions (omega arith) p)
