-- The checks before the text, and what tables that pass them know. Assumes nothing.
use mathlib.Core.Path.{◌≡◌, refl, sym, ap, ◌∙◌}
use mathlib.Core.Bool.{false}
use mathlib.Core.Option.{Option, none, some}
use mathlib.Core.List.{List}
use Prim.Native.Nat.{ℕ, ◌≤◌}
use native.Mathlib.Nat.{zero-add}
use native.Mathlib.Omega.{arith}
use lib.ListN.{length}
use borrow.Author.Tests.{eq-eqb}
use Rattle.tables.specs.declared.refusal.Refusal.{Refusal}
use Rattle.tables.specs.declared.refusal.Refusal.TheVariants as refusal
use Rattle.tables.specs.Tables.{cells}
use Rattle.tables.specs.Legal.{cell_illegal, no_weights}
use Rattle.tables.proofs.LegalTests.{legal_passes, passed_legal, illegal_fails}
use Rattle.legal.specs.Judged.{Judged, all_legal, not_legal}
use Rattle.checks.specs.Checks.{found, first_from, first_refusal}
use Rattle.checks.specs.Planning.{plain_checks}
use Rattle.legal.specs.Parts.{no_cell}
use Rattle.tables.proofs.CellLaws.{cells_small}
use Rattle.checks.proofs.CheckLaws.{none_when, all_pass, none_found, none_so, none_first, first_found}
use Rattle.checks.proofs.RangeLaws.{in_range, passes_range}
use Rattle.checks.proofs.PlanningLaws.{lengths_exact}
use Rattle.exports.specs.Export.{early_checks, Exportable}

module _ (rates distortions : List ℕ) where
  -- check 7, by what the legality check answers
  pub judged_found : {o : Option Refusal} → Judged no_weights rates distortions o →
      found refusal.Cell (first_from (cell_illegal no_weights rates distortions) 0 (length rates)) ≡ o
  judged_found (all_legal h) =
      ap (found refusal.Cell)
      (none_first (length rates) (cell_illegal no_weights rates distortions) 0
      (λ i l g. legal_passes no_weights rates distortions i (h i (omega arith))))
  judged_found (not_legal {k} h) =
      ap (found refusal.Cell)
      (first_found (cell_illegal no_weights rates distortions) 0 k (length rates)
      (λ i l. rw zero-add (legal_passes no_weights rates distortions i (h.lowest i l)))
      h.inside (rw zero-add (illegal_fails no_weights rates distortions k h.illegal))
      ∙ ap some (zero-add k))

-- tables that pass the checks
pub exportable : (N Q : ℕ) (rates distortions : List ℕ) → first_refusal (early_checks N Q rates distortions) ≡ none → Exportable N Q rates distortions
exportable N Q rates distortions e =
    let p = all_pass (early_checks N Q rates distortions) e in
    let n = in_range (none_when _ _ p.0) in
    let q = in_range (none_when _ _ p.1.0) in
    let l = lengths_exact N Q rates distortions (none_when _ _ p.1.1.0) in
    let s = none_so (length rates) (cell_illegal no_weights rates distortions) 0 (none_found refusal.Cell _ p.1.1.1.0) in
    record {
      some_scans = n.0;
      scans = n.1;
      some_settings = q.0;
      settings = q.1;
      rates_long = l.0;
      distortions_long = l.1;
      legal = λ k h. passed_legal no_weights rates distortions k (s k (omega arith) (omega arith));
    }

-- .. and those that are so pass them
pub passes_early : {N Q : ℕ} {rates distortions : List ℕ} → Exportable N Q rates distortions → first_refusal (early_checks N Q rates distortions) ≡ none
passes_early {N} {Q} {rates} {distortions} x =
    rw (
      passes_range x.some_scans x.scans,
      passes_range x.some_settings x.settings,
      eq-eqb (length rates) (cells N Q) x.rates_long,
      eq-eqb (length distortions) (cells N Q) x.distortions_long,
      none_first (length rates) (cell_illegal no_weights rates distortions) 0
          (λ i l g. legal_passes no_weights rates distortions i (x.legal i (omega arith))),
    ) refl

-- tables that pass 5 are of one length, and no larger than the largest
pub table_sizes : (N Q : ℕ) (rates distortions : List ℕ) → none ≡ first_refusal (plain_checks N Q false rates distortions) →
    (length distortions ≡ length rates) × (length rates ≤ no_cell)
table_sizes N Q rates distortions e =
    let p = all_pass (plain_checks N Q false rates distortions) (sym e) in
    let n = in_range (none_when _ _ p.0) in
    let q = in_range (none_when _ _ p.1.0) in
    let l = lengths_exact N Q rates distortions (none_when _ _ p.1.1.1.1.0) in
    (l.1 ∙ sym l.0, omega (arith, l.0, cells_small {N = N} {Q = Q} n.1 q.1))
