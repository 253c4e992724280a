-- A call over the front of a lent buffer is a call over the buffer. Assumes nothing.
use mathlib.Core.Path.{◌≡◌, refl, sym, ap, ◌∙◌}
use mathlib.Core.Option.{Option, none, some}
use mathlib.Core.List.{List, ◌++◌, append_assoc}
use Prim.Native.Nat.{ℕ, ◌≤◌}
use lib.ListN.{length, take, drop, take-append-drop}
use lib.Seq.{drop-append-le, length-take-le}
use Rattle.tables.specs.declared.refusal.Refusal.{Refusal}
use Rattle.exports.specs.Export.{export_text, export_refusal, text_after}
use Rattle.exports.proofs.ExportLaws.{export_room}

-- a buffer whose front stays the same stays the same
pub same_front : (room : ℕ) (l : List ℕ) {p : List ℕ} → p ≡ take room l → p ++ drop room l ≡ l
same_front room l e = ap (λ (x : List ℕ). x ++ drop room l) e ∙ take-append-drop room l

-- what is handed to the front is handed to the buffer
pub handed_front : (room n : ℕ) (t l : List ℕ) {p : List ℕ} → n ≤ length (take room l) → p ≡ t ++ drop n (take room l) →
    p ++ drop room l ≡ t ++ drop n l
handed_front room n t l h e =
    ap (λ (x : List ℕ). x ++ drop room l) e
    ∙ append_assoc t (drop n (take room l)) (drop room l)
    ∙ ap (λ (x : List ℕ). t ++ x) (sym (drop-append-le n (take room l) (drop room l) h) ∙ ap (drop n) (take-append-drop room l))

-- the front of a buffer has the room that is lent
pub front_length : {room m : ℕ} (l : List ℕ) → (room ≡ m) × (room ≤ length l) → length (take room l) ≡ m
front_length {room} l h = length-take-le room l h.1 ∙ h.0

-- the text of an export
pub text_whole : (N Q : ℕ) (rates distortions text : List ℕ) (room : ℕ) {m : ℕ} {p : List ℕ} → length (take room text) ≡ m →
    p ≡ text_after (export_refusal N Q rates distortions (length (take room text))) N Q rates distortions (take room text) →
    p ++ drop room text ≡ text_after (export_refusal N Q rates distortions m) N Q rates distortions text
text_whole N Q rates distortions text room {p = p} e f =
    of (export_refusal N Q rates distortions (length (take room text))) refl f
    ∙ ap (λ (k : ℕ). text_after (export_refusal N Q rates distortions k) N Q rates distortions text) e
  where
    of : (o : Option Refusal) → export_refusal N Q rates distortions (length (take room text)) ≡ o → p ≡ text_after o N Q rates distortions (take room text) →
        p ++ drop room text ≡ text_after o N Q rates distortions text
    of none g f = handed_front room (length (export_text N Q rates distortions)) (export_text N Q rates distortions) text (export_room N Q rates distortions (length (take room text)) g) f
    of (some r) g f = same_front room text f
