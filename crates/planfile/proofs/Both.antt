-- The reader accepts exactly the files of plans, each of one plan in one version, and every refusal is the first in document 01's order.
-- Assumes nothing.
use mathlib.Core.Path.{◌≡◌, sym, ap, subst, ◌∙◌}
use mathlib.Core.Logic.{◌↔◌}
use mathlib.Core.Option.{none, some}
use mathlib.Core.List.{List}
use Prim.Native.Nat.{ℕ, ◌<◌}
use native.Mathlib.Omega.{arith}
use lib.ListN.{get_or, take}
use borrow.Author.Tests.{le-ltb}
use Rattle.tables.specs.declared.refusal.Refusal.{Refusal}
use Rattle.tables.specs.declared.refusal.Refusal.TheVariants as refusal
use Rattle.checks.proofs.CheckLaws.{FirstOf, first_is}
use Rattle.checks.specs.Checks.{when}
use Rattle.rules.specs.declared.Fields.{Fields}
use Rattle.blocks.specs.Letters.{qpl1, qpl2, Known, version_of}
use Rattle.blocks.specs.File.{file_length, entry_at}
use Rattle.planfile.specs.Reading.{reader_checks, fields_of, read_refusal_under, read_refusal, entries}
use Rattle.planfile.specs.Writing.{writer_checks, write_refusal_under, write_refusal}
use Rattle.planfile.specs.Sentence.{HasPlan}
use Rattle.octets.proofs.NumberLaws.{number_small}
use Rattle.blocks.proofs.LetterLaws.{qpl1_known, qpl2_known}
use Rattle.planfile.proofs.Back.{version_back, fields_back, settings_back, read_back}
use Rattle.planfile.proofs.Accepted.{passed, accepted_file, accepted_held, accepted_plan}

-- an accepted file has the plan that is read, in its version
plan_of : (file : List ℕ) (room : ℕ) → ((i : ℕ) → get_or file i 0 < 256) → read_refusal file room ≡ none → HasPlan (version_of file) file room
unfolding fields_of
plan_of file room bytes e = record {
  fields = fields_of file;
  settings = entries (entry_at file) 0 (fields_of file).scans;
  buffer = file_length (fields_of file).scans;
  budget = omega (arith, number_small 16 8 file bytes);
  enough = (passed file room e).enough;
  written = accepted_plan file room (file_length (fields_of file).scans) e (omega arith);
  held = accepted_held file room e;
  same = sym (accepted_file file room bytes e);
}

module _ (version : ℕ) (known : Known version) (file : List ℕ) where
  -- a plan's file is accepted
  accepted : (room : ℕ) → HasPlan version file room → read_refusal file room ≡ none
  accepted room p =
      ap (λ (l : List ℕ). read_refusal l room) p.same
      ∙ read_back p.fields p.settings p.buffer p.written version known p.budget p.held room
      ∙ ap (λ b. when b refusal.Buffer) (le-ltb room p.fields.scans p.enough)

  -- as one of that version
  plan_version : {room : ℕ} → HasPlan version file room → version_of file ≡ version
  plan_version p = ap version_of p.same ∙ version_back version known p.fields p.settings

  -- A file of bytes is accepted as one of a version if and only if some plan has it in that version. (In QPL2 it is then the one that is
  -- written; QPL1 is read alone.)
  pub accepts_plans : (room : ℕ) → ((i : ℕ) → get_or file i 0 < 256) →
      ((read_refusal file room ≡ none) × (version_of file ≡ version)) ↔ HasPlan version file room
  accepts_plans room bytes =
      (λ h. subst (λ (v : ℕ). HasPlan v file room) h.1 (plan_of file room bytes h.0), λ p. (accepted room p, plan_version p))

  -- the fields of a plan are those of its file
  plan_fields : {room : ℕ} (p : HasPlan version file room) → fields_of file ≡ p.fields
  plan_fields p = ap fields_of p.same ∙ fields_back p.fields p.settings p.buffer p.written version known p.budget

  -- and its first N settings are the entries of its file
  plan_settings : {room : ℕ} (p : HasPlan version file room) → entries (entry_at file) 0 p.fields.scans ≡ take p.fields.scans p.settings
  plan_settings p =
      ap (λ (l : List ℕ). entries (entry_at l) 0 p.fields.scans) p.same
      ∙ settings_back p.fields p.settings p.buffer p.written version known

-- So the files that are accepted as QPL2 are those that the writer writes, of plans that fit; and those that are accepted as QPL1 are those
-- of the same plans with the old letters and the old sum, but for plans with the mark of weights, which have none.
module _ (file : List ℕ) (room : ℕ) (bytes : (i : ℕ) → get_or file i 0 < 256) where
  pub accepts_qpl2 : ((read_refusal file room ≡ none) × (version_of file ≡ qpl2)) ↔ HasPlan qpl2 file room
  accepts_qpl2 = accepts_plans qpl2 qpl2_known file room bytes

  pub accepts_qpl1 : ((read_refusal file room ≡ none) × (version_of file ≡ qpl1)) ↔ HasPlan qpl1 file room
  accepts_qpl1 = accepts_plans qpl1 qpl1_known file room bytes

-- Two plans that have the same file have it in the same version, and have the same fields and the same first N settings.
module _ (version version' : ℕ) (known : Known version) (known' : Known version') (file : List ℕ) where
  pub plan_unique : {room room' : ℕ} (p : HasPlan version file room) (q : HasPlan version' file room')
      → (version ≡ version') × (p.fields ≡ q.fields) × (take p.fields.scans p.settings ≡ take q.fields.scans q.settings)
  plan_unique p q = (sym (plan_version version known file p) ∙ plan_version version' known' file q, same_fields, same_settings)
    where
      same_fields : p.fields ≡ q.fields
      same_fields = sym (plan_fields version known file p) ∙ plan_fields version' known' file q

      same_settings : take p.fields.scans p.settings ≡ take q.fields.scans q.settings
      same_settings =
          sym (plan_settings version known file p)
          ∙ ap (λ (f : Fields). entries (entry_at file) 0 f.scans) same_fields
          ∙ plan_settings version' known' file q

-- "The reader checks 11, 12, 13, 6, 14": it gives a refusal if and only if it is the first of its checks'.
pub reader_order : (file : List ℕ) (room : ℕ) (r : Refusal) → (read_refusal file room ≡ some r) ↔ FirstOf (reader_checks file room) r
unfolding read_refusal_under
reader_order file room r = first_is (reader_checks file room) r

-- "the writer 13, 6, 14": and so does the writer.
pub writer_order : (f : Fields) (settings : List ℕ) (room : ℕ) (r : Refusal)
    → (write_refusal f settings room ≡ some r) ↔ FirstOf (writer_checks f settings room) r
unfolding write_refusal_under
writer_order f settings room r = first_is (writer_checks f settings room) r
