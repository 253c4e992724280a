-- Export and import, one after the other. Assumes nothing.
use mathlib.Core.Path.{◌≡◌, refl, sym, ap, ◌∙◌}
use mathlib.Core.Option.{Option, none, some}
use mathlib.Core.List.{List, [], ◌∷◌, ◌++◌}
use Prim.Native.Nat.{ℕ}
use native.Mathlib.Omega.{arith}
use lib.ListN.{length, get_or, take, drop}
use lib.Seq.{take_at}
use Rattle.tables.specs.declared.refusal.Refusal.{Refusal}
use Rattle.tables.specs.Tables.{cells}
use Rattle.tables.proofs.RefusalLaws.{never_zero}
use Rattle.checks.specs.Checks.{or_answer}
use Rattle.imports.specs.Import.{rates_after, distortions_after, scratch_after, import_of}
use Rattle.imports.proofs.ImportLaws.{ImportAdmitted, import_admits, import_passed, import_passes}
use Rattle.exports.specs.Export.{export_text, export_refusal, export_answered, text_after, export_of, Exportable}
use Rattle.exports.proofs.ExportLaws.{room_alone, export_passed}
use Rattle.lists.specs.Shown.{zeroed}
use Rattle.lists.specs.Again.{imported_rates, imported_distortions}
use Rattle.lists.specs.Calls.{exported_text, rates_left, distortions_left, Roomy, Returned, Stays}
use Rattle.lists.proofs.ExportLaws.{zeroed_same, export_lines}
use Rattle.lists.proofs.ImportedLaws.{imported_legal}

-- an answer is no refusal
answered_none : (o : Option Refusal) (v : List ℕ) → (or_answer o v).number ≡ 0 → o ≡ none
answered_none none v e = refl
answered_none (some r) v e = absurd (never_zero r e)

module _ (N Q : ℕ) (rates distortions T : List ℕ) (e : (export_of N Q rates distortions T).reply.number ≡ 0) where
  passed : export_refusal N Q rates distortions (length T) ≡ none
  unfolding export_answered
  passed = answered_none (export_refusal N Q rates distortions (length T)) _ e

  -- the bytes that an export leaves are the text
  pub exported_is : exported_text N Q rates distortions T ≡ export_text N Q rates distortions
  unfolding export_answered
  exported_is =
      let w = export_text N Q rates distortions in
      ap (λ (o : Option Refusal). take (get_or (or_answer o (length w ∷ [])).values 0 0) (text_after o N Q rates distortions T)) passed
      ∙ take_at w (drop (length w) T) (length w) refl

  pub export_import : (R D S : List ℕ) → Roomy N Q R D S → Returned N Q rates distortions (exported_text N Q rates distortions T) R D S
  export_import R D S roomy =
      let x = export_passed N Q rates distortions T passed in
      let again = export_lines x in
      let a : ImportAdmitted N Q (length R) (length D) (length S) = record {
        some_scans = x.some_scans;
        scans = x.scans;
        some_settings = x.some_settings;
        settings = x.settings;
        rates_long = roomy.rates_long;
        distortions_long = roomy.distortions_long;
        scratch_long = roomy.scratch_long;
      } in
      let w = export_text N Q rates distortions in
      let f : (import_of N Q w R D S).ends ≡ none = import_passes N Q w R D S a again.faultless in
      let r : Returned N Q rates distortions w R D S = record {
        accepted = f;
        rates_back = ap (λ (o : Option Refusal). rates_after o N Q w R) f ∙ again.rates_again R;
        distortions_back = ap (λ (o : Option Refusal). distortions_after o N Q w D) f ∙ again.distortions_again D;
        scratch_zero = ap (λ (o : Option Refusal). scratch_after o N Q S) (import_admits a);
      } in
      rw (← exported_is) at r

-- legal tables with 0 beside every forbidden rate stay as they are
stays : (N Q : ℕ) (rates distortions : List ℕ) → Exportable N Q rates distortions → zeroed rates distortions ≡ distortions → Stays N Q rates distortions
stays N Q rates distortions x z = record {
  legal = x.legal;
  room_alone = room_alone x;
  again = λ T R D S e roomy.
      let b = export_import N Q rates distortions T e R D S roomy in (
        b.accepted,
        (
          ap (take (cells N Q)) b.rates_back ∙ take_at rates (drop (cells N Q) R) (cells N Q) x.rates_long,
          ap (take (cells N Q)) (b.distortions_back ∙ ap (λ (l : List ℕ). l ++ drop (cells N Q) D) z) ∙ take_at distortions (drop (cells N Q) D) (cells N Q) x.distortions_long,
        ),
      );
}

-- what was imported, from any text, stays as it is
pub import_export_import : (N Q : ℕ) (text R D S : List ℕ) → (import_of N Q text R D S).ends ≡ none → Stays N Q (rates_left N Q text R D S) (distortions_left N Q text R D S)
import_export_import N Q text R D S e =
    let p = import_passed N Q text R D S e in
    let a = p.0 in
    let legal = imported_legal N Q text R D p.1 in
    let r = imported_rates N Q text R in
    let d = imported_distortions N Q text D in
    let x : Exportable N Q r d = record {
      some_scans = a.some_scans;
      scans = a.scans;
      some_settings = a.some_settings;
      settings = a.settings;
      rates_long = legal.rates_long;
      distortions_long = legal.distortions_long;
      legal = legal.legal;
    } in
    let z : zeroed r d ≡ d = zeroed_same r d (legal.distortions_long ∙ sym legal.rates_long) (λ c g h. legal.zero_beside c (omega (arith, g, legal.rates_long)) h) in
    let rates_are : rates_left N Q text R D S ≡ r = ap (λ (o : Option Refusal). take (cells N Q) (rates_after o N Q text R)) e in
    let distortions_are : distortions_left N Q text R D S ≡ d = ap (λ (o : Option Refusal). take (cells N Q) (distortions_after o N Q text D)) e in
    rw (← rates_are, ← distortions_are) at (stays N Q r d x z)
