-- The call: how long the text is, what each way out answers, and that a reply settles the answer. Assumes nothing.
use mathlib.Core.Path.{◌≡◌, refl, sym, ap, ◌∙◌}
use mathlib.Core.Option.{none, some}
use mathlib.Core.List.{List, [], ◌∷◌, ◌++◌}
use Prim.Native.Nat.{ℕ, zero, suc, ◌+◌, ◌*◌, ◌≤◌, ◌<◌}
use native.Mathlib.Nat.{zero-add}
use native.Mathlib.Omega.{arith}
use lib.Dec.{ltb}
use lib.ListN.{length, get_or, drop, length-append}
use lib.Seq.{sets, sets-eq}
use borrow.Author.Tests.{lt-ltb, le-ltb, ltb-false}
use Rattle.std.specs.Prelude.{Result, Ok, Err}
use Rattle.tables.specs.declared.refusal.Refusal.{Refusal}
use Rattle.tables.specs.declared.refusal.Refusal.TheVariants as refusal
use Rattle.tables.specs.Refusals.{Reply, refused, answered}
use Rattle.tables.specs.Tables.{cells}
use Rattle.tables.proofs.RefusalLaws.{refused_unique, answered_or_refused}
use Rattle.checks.specs.Checks.{when, or_else, first_refusal}
use Rattle.checks.proofs.CheckLaws.{none_when, none_else, all_pass, first_append, else_nothing}
use Rattle.exports.specs.Export.{early_checks, cell_line, place_at, export_from, export_text, export_checks, export_refusal, export_answered, text_after, export_reply, Exportable}
use Rattle.exports.proofs.EarlyLaws.{exportable, passes_early}
use Rattle.tables.specs.Legal.{LegalRate, LegalBeside}
use Rattle.exports.specs.declared.place.Place.{Place}
use Rattle.exports.specs.Parts.{Placed}
use Rattle.exports.proofs.TextLaws.{AtCell, place_is}
use Rattle.exports.proofs.PlaceLaws.{in_cell_order, placed}
use Rattle.exports.proofs.CellLaws.{cell_short}

-- ---- the length

-- n lines from cell c on are short
from_short : {N Q : ℕ} {rates distortions : List ℕ} → Exportable N Q rates distortions → (n c : ℕ) → c + n ≤ cells N Q →
    length (export_from Q rates distortions n c) ≤ 28 * n
from_short x zero c h = omega arith
from_short {Q = Q} {rates} {distortions} x (suc n) c h =
    let l = x.legal c (omega (arith, x.rates_long)) in
    let p = place_at Q c in
    omega (
      arith,
      length-append (cell_line p (get_or rates c 0) (get_or distortions c 0)) (export_from Q rates distortions n (suc c)),
      cell_short p (get_or rates c 0) (get_or distortions c 0) (placed x (in_cell_order Q x.some_settings c) (omega arith)) l.0 l.1,
      from_short x n (suc c) (omega arith),
    )

-- at most 28 bytes for each cell
pub export_short : {N Q : ℕ} {rates distortions : List ℕ} → Exportable N Q rates distortions → length (export_text N Q rates distortions) ≤ 28 * cells N Q
unfolding export_text
export_short {N} {Q} x = from_short x (cells N Q) 0 (omega arith)

-- a cell of it, as it is given to its line
pub cell_given : {N Q at c rate distortion : ℕ} {rates distortions : List ℕ} {p : Place} → Exportable N Q rates distortions → AtCell N Q rates distortions at p c →
    c < length rates → rate ≡ get_or rates c 0 → distortion ≡ get_or distortions c 0 → Placed p × (LegalRate rate × LegalBeside 1 rate distortion)
cell_given {c = c} x a h r d = (placed x (place_is x.some_settings a) (omega (arith, x.rates_long)), rw (r, d) (x.legal c h))

-- ---- the ways out

-- the refusal is that of the checks before the text, or that of the room
pub refusal_parts : (N Q : ℕ) (rates distortions : List ℕ) (room : ℕ) → export_refusal N Q rates distortions room ≡
    or_else (first_refusal (early_checks N Q rates distortions)) (when (ltb room (length (export_text N Q rates distortions))) refusal.Buffer)
unfolding export_refusal
refusal_parts N Q rates distortions room =
    first_append (early_checks N Q rates distortions) (when (ltb room (length (export_text N Q rates distortions))) refusal.Buffer ∷ [])
    ∙ ap (or_else (first_refusal (early_checks N Q rates distortions))) (else_nothing _)

module _ (N Q : ℕ) (rates distortions text : List ℕ) where
  -- a refusal leaves the text as it was
  refuses : {r : Refusal} → export_refusal N Q rates distortions (length text) ≡ some r →
      (refused r ≡ export_answered N Q rates distortions (length text)) × (text ≡ text_after (export_refusal N Q rates distortions (length text)) N Q rates distortions text)
  unfolding export_answered
  refuses e = rw e (refl, refl)

  -- .. of a check
  pub refuses_check : {r : Refusal} → first_refusal (early_checks N Q rates distortions) ≡ some r →
      (refused r ≡ export_answered N Q rates distortions (length text)) × (text ≡ text_after (export_refusal N Q rates distortions (length text)) N Q rates distortions text)
  refuses_check {r} e = refuses {r = r} (refusal_parts N Q rates distortions (length text) ∙ rw e refl)

  -- .. of the room
  pub refuses_room : first_refusal (early_checks N Q rates distortions) ≡ none → length text < length (export_text N Q rates distortions) →
      (refused refusal.Buffer ≡ export_answered N Q rates distortions (length text))
      × (text ≡ text_after (export_refusal N Q rates distortions (length text)) N Q rates distortions text)
  refuses_room e h = refuses {r = refusal.Buffer} (refusal_parts N Q rates distortions (length text) ∙ rw (e, lt-ltb _ _ h) refl)

  -- otherwise the text goes to the front
  pub gives_text : {n : ℕ} {after : List ℕ} → first_refusal (early_checks N Q rates distortions) ≡ none →
      length (export_text N Q rates distortions) ≤ length text → n ≡ length (export_text N Q rates distortions) →
      after ≡ sets text 0 (export_text N Q rates distortions) →
      (answered (n ∷ []) ≡ export_answered N Q rates distortions (length text))
      × (after ≡ text_after (export_refusal N Q rates distortions (length text)) N Q rates distortions text)
  unfolding export_answered
  gives_text e h q s =
      let w = export_text N Q rates distortions in
      let z : export_refusal N Q rates distortions (length text) ≡ none = refusal_parts N Q rates distortions (length text) ∙ rw (e, le-ltb _ _ h) refl in
      let k : 0 + length w ≤ length text = omega arith in
      rw z (ap (λ (m : ℕ). answered (m ∷ [])) q, s ∙ sets-eq w text 0 k ∙ ap (λ (m : ℕ). w ++ drop m text) (zero-add (length w)))

-- an export of tables that pass the checks is refused for want of room alone
pub room_alone : {N Q : ℕ} {rates distortions : List ℕ} → Exportable N Q rates distortions → (text : List ℕ) →
    export_refusal N Q rates distortions (length text) ≡ when (ltb (length text) (length (export_text N Q rates distortions))) refusal.Buffer
room_alone {N} {Q} {rates} {distortions} x text = refusal_parts N Q rates distortions (length text) ∙ rw (passes_early x) refl

-- one that is not refused has its room
pub export_room : (N Q : ℕ) (rates distortions : List ℕ) (room : ℕ) → export_refusal N Q rates distortions room ≡ none → length (export_text N Q rates distortions) ≤ room
unfolding export_refusal
export_room N Q rates distortions room e =
    let p = all_pass (export_checks N Q rates distortions room) e in
    ltb-false room (length (export_text N Q rates distortions)) (none_when _ _ p.1.1.1.1.0)

-- .. and its tables pass the checks
pub export_passed : (N Q : ℕ) (rates distortions text : List ℕ) → export_refusal N Q rates distortions (length text) ≡ none → Exportable N Q rates distortions
export_passed N Q rates distortions text e =
    exportable N Q rates distortions (none_else (first_refusal (early_checks N Q rates distortions)) _ (sym (refusal_parts N Q rates distortions (length text)) ∙ e)).0

-- ---- the answer

-- two answers with one number and the same values are the same
pub export_unique : (a b : Result ℕ Refusal) → export_reply a ≡ export_reply b → a ≡ b
export_unique (Ok n) (Ok m) e = ap (λ (x : Reply). Ok (get_or x.values 0 0)) e
export_unique (Ok n) (Err r) e = absurd (answered_or_refused r e)
export_unique (Err r) (Ok n) e = absurd (answered_or_refused r (sym e))
export_unique (Err r) (Err r') e = ap Err (refused_unique e)
