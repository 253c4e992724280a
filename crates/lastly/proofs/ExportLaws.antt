-- The export on the surface: its answer buffer is part of 6. Assumes nothing.
use mathlib.Core.Path.{◌≡◌, refl, sym, ap, ◌∙◌}
use mathlib.Core.Bool.{Bool, true, false, cond}
use mathlib.Core.Option.{Option, none, some}
use mathlib.Core.List.{List, [], ◌∷◌, ◌++◌}
use Prim.Native.Nat.{ℕ, ◌≤◌}
use native.Mathlib.Omega.{arith}
use lib.Dec.{ltb}
use lib.ListN.{length, drop}
use borrow.Author.Tests.{ltb-false}
use Rattle.tables.specs.declared.refusal.Refusal.{Refusal}
use Rattle.tables.specs.declared.refusal.Refusal.TheVariants as refusal
use Rattle.tables.specs.Limits.{most_scans, most_settings}
use Rattle.tables.specs.Legal.{no_weights, cell_illegal}
use Rattle.tables.proofs.CellLaws.{cells_small}
use Rattle.checks.specs.Checks.{first_refusal, or_else, or_answer, first_from, found, when}
use Rattle.checks.specs.Planning.{scans_out, settings_out, lengths_out}
use Rattle.checks.proofs.CheckLaws.{none_else, none_when, first_append}
use Rattle.checks.proofs.GiveLaws.{Gives, gives_when, gives_else, gives_found}
use Rattle.checks.proofs.RangeLaws.{in_range}
use Rattle.checks.proofs.PlanningLaws.{lengths_exact}
use Rattle.exports.specs.Export.{early_checks, export_checks, export_text, export_refusal, export_answered, text_after}
use Rattle.exports.proofs.ExportLaws.{refusal_parts, export_room}
use Rattle.telling.specs.Told.{lent}
use Rattle.telling.specs.Parts.{Tellable}
use Rattle.telling.proofs.AnswerLaws.{tellable_as}
use Rattle.lastly.specs.Lastly.{asked_last, export_told}
use Rattle.lastly.proofs.CarryLaws.{Little, or_tellable}
use Rattle.lastly.proofs.LastLaws.{last_told}

-- a cell's number is below the number of cells
export_light : (N Q : ℕ) (rates distortions : List ℕ) (room : ℕ) → Gives Little (export_refusal N Q rates distortions room)
unfolding export_refusal
export_light N Q rates distortions room =
    gives_else Little (when (scans_out N) refusal.Scans) _ (gives_when Little (scans_out N) refusal.Scans (omega arith)) (λ e.
    gives_else Little (when (settings_out Q) refusal.Settings) _ (gives_when Little (settings_out Q) refusal.Settings (omega arith)) (λ f.
    gives_else Little (when (lengths_out N Q rates distortions) refusal.Lengths) _
    (gives_when Little (lengths_out N Q rates distortions) refusal.Lengths (omega arith)) (λ g.
    let n = in_range {most = most_scans} {x = N} (none_when (scans_out N) refusal.Scans e) in
    let q = in_range {most = most_settings} {x = Q} (none_when (settings_out Q) refusal.Settings f) in
    let w = lengths_exact N Q rates distortions (none_when (lengths_out N Q rates distortions) refusal.Lengths g) in
    let c = cells_small {N = N} {Q = Q} n.1 q.1 in
    gives_else Little (found refusal.Cell (first_from (cell_illegal no_weights rates distortions) 0 (length rates))) _
    (gives_found Little (length rates) refusal.Cell (cell_illegal no_weights rates distortions) 0 (λ i h. omega (arith, w.0, c))) (λ h.
    gives_else Little (when (ltb room (length (export_text N Q rates distortions))) refusal.Buffer) none
    (gives_when Little (ltb room (length (export_text N Q rates distortions))) refusal.Buffer (omega arith)) (λ z. tt)))))

module _ (N Q : ℕ) (rates distortions : List ℕ) (room n : ℕ) where
  abbrev short : Option Refusal
  short = when (ltb n 8) refusal.Buffer

  abbrev long : ℕ
  long = length (export_text N Q rates distortions)

  -- the export over the room that is lent, and the answer buffer behind it: together they are the checks
  told_parts : or_else (export_refusal N Q rates distortions (lent 8 n room)) short ≡ export_told N Q rates distortions room n
  unfolding export_told export_refusal
  told_parts =
      ap (λ (x : Option Refusal). or_else x short) (refusal_parts N Q rates distortions (lent 8 n room))
      ∙ of (first_refusal (early_checks N Q rates distortions)) (ltb n 8)
      ∙ sym (first_append (export_checks N Q rates distortions room) (short ∷ []) ∙ ap (λ (x : Option Refusal). or_else x (or_else short none)) (refusal_parts N Q rates distortions room))
    where
      both : (a b : Bool) → or_else (when a refusal.Buffer) (some refusal.Buffer) ≡ or_else (when b refusal.Buffer) (some refusal.Buffer)
      both true true = refl
      both true false = refl
      both false true = refl
      both false false = refl

      of : (e : Option Refusal) (t : Bool) → or_else (or_else e (when (ltb (cond t 0 room) long) refusal.Buffer)) (when t refusal.Buffer) ≡
          or_else (or_else e (when (ltb room long) refusal.Buffer)) (or_else (when t refusal.Buffer) none)
      of (some r) t = refl
      of none false = refl
      of none true = both (ltb 0 long) (ltb room long)

  -- the export's answer buffer is a test behind its checks
  pub export_last : asked_last 8 n (export_answered N Q rates distortions (lent 8 n room)) ≡ or_answer (export_told N Q rates distortions room n) (long ∷ [])
  unfolding export_answered
  export_last =
      sym (last_told 8 n (export_refusal N Q rates distortions (lent 8 n room)) (long ∷ []) refl)
      ∙ ap (λ x. or_answer x (long ∷ [])) told_parts

  pub export_tellable : Tellable (or_answer (export_told N Q rates distortions room n) (length (export_text N Q rates distortions) ∷ [])) n
  export_tellable =
      let o = export_refusal N Q rates distortions (lent 8 n room) in
      let v : List ℕ = length (export_text N Q rates distortions) ∷ [] in
      tellable_as (sym (ap (λ x. or_answer x v) told_parts))
      (or_tellable (or_else o short) v n
      (gives_else Little o short (export_light N Q rates distortions (lent 8 n room)) (λ e. gives_when Little (ltb n 8) refusal.Buffer (omega arith)))
      (λ e. ltb-false n 8 (none_when (ltb n 8) refusal.Buffer (none_else o short e).1)))

  -- where the answer buffer is short the text stays as it was: it has no byte, or the export was refused
  pub text_told : (text : List ℕ) → text_after (export_refusal N Q rates distortions (lent 8 n room)) N Q rates distortions text ≡
      text_after (export_told N Q rates distortions room n) N Q rates distortions text
  text_told text =
      of (ltb n 8) (export_refusal N Q rates distortions (lent 8 n room)) (λ e z. export_room N Q rates distortions 0 (sym (ap (λ (t : Bool). export_refusal N Q rates distortions (cond t 0 room)) e) ∙ z)) refl refl
      ∙ ap (λ (x : Option Refusal). text_after x N Q rates distortions text) told_parts
    where
      empty : (l : List ℕ) → length l ≤ 0 → l ++ drop (length l) text ≡ text
      empty [] h = refl
      empty (x ∷ l) h = absurd (omega arith)

      of : (t : Bool) (o : Option Refusal) → (ltb n 8 ≡ true → export_refusal N Q rates distortions (lent 8 n room) ≡ none → length (export_text N Q rates distortions) ≤ 0) →
          ltb n 8 ≡ t → export_refusal N Q rates distortions (lent 8 n room) ≡ o →
          text_after o N Q rates distortions text ≡ text_after (or_else o (when t refusal.Buffer)) N Q rates distortions text
      of t (some r) f e z = refl
      of false none f e z = refl
      of true none f e z = empty (export_text N Q rates distortions) (f e z)
