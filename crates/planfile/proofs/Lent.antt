-- What the writer leaves in its lent buffer, the reader reads back into its own: theorem a of the two calls. And what the reader reads of a
-- QPL2 file, the writer writes as the same file: theorem b of them. Assumes nothing.
use mathlib.Core.Path.{◌≡◌, refl, sym, ap, ◌∙◌}
use mathlib.Core.Bool.{Bool}
use mathlib.Core.Option.{Option, none}
use mathlib.Core.List.{List, ◌++◌}
use Prim.Native.Nat.{ℕ, ◌^◌, ◌≤◌, ◌<◌}
use lib.ListN.{length, get_or, take, drop}
use lib.Seq.{take_at}
use borrow.Author.Tests.{le-ltb}
use Rattle.tables.specs.declared.refusal.Refusal.{Refusal}
use Rattle.tables.specs.declared.refusal.Refusal.TheVariants as refusal
use Rattle.tables.specs.Refusals.{answered}
use Rattle.checks.specs.Checks.{when, or_answer}
use Rattle.rules.specs.declared.Fields.{Fields}
use Rattle.blocks.specs.Letters.{qpl2, version_of}
use Rattle.blocks.specs.File.{file_of, file_length, entry_at}
use Rattle.planfile.specs.declared.read.PlanRead.{PlanRead}
use Rattle.std.specs.Prelude.{Ok}
use Rattle.planfile.specs.Reading.{fields_of, plan_read, read_values, read_refusal, read_of, read_reply, entries, settings_after}
use Rattle.planfile.specs.Writing.{write_refusal, write_of, write_reply, file_after}
use Rattle.blocks.proofs.LetterLaws.{qpl2_known}
use Rattle.blocks.proofs.HeaderLaws.{held_in_qpl2}
use Rattle.planfile.specs.Sentence.{file_left, WrittenAndRead, settings_left, ReadAndWritten}
use Rattle.planfile.proofs.EntryLaws.{length_entries}
use Rattle.planfile.proofs.Back.{length_back, version_back, fields_back, settings_back, read_back}
use Rattle.planfile.proofs.Accepted.{accepted_file, accepted_plan}

-- what the writer answers where it refuses nothing
written_as : (f : Fields) (settings : List ℕ) (room : ℕ) → write_refusal f settings room ≡ none →
    write_of f settings room ≡ write_reply (Ok (file_length f.scans))
unfolding write_of
written_as f settings room e = rw e refl

-- what it leaves is the file of the plan
left_is : (f : Fields) (settings buffer : List ℕ) → write_refusal f settings (length buffer) ≡ none → file_left f settings buffer ≡ file_of qpl2 f settings
left_is f settings buffer e =
    let n : ℕ = file_length f.scans in
    ap (λ (o : Option Refusal). take n (file_after o f settings buffer)) e
    ∙ take_at (file_of qpl2 f settings) (drop n buffer) n (length_back qpl2 f settings)

-- what the reader answers to a file that it does not refuse
read_as : (file lent : List ℕ) {p : PlanRead} → read_refusal file (length lent) ≡ none → plan_read file ≡ p → read_of file (length lent) ≡ read_reply (Ok p)
unfolding read_of
read_as file lent {p} e g =
    ap (λ (o : Option Refusal). or_answer o (read_values (plan_read file))) e ∙ ap (λ (q : PlanRead). answered (read_values q)) g

-- and what it leaves in its buffer
left_as : (file lent s : List ℕ) (f : Fields) → read_refusal file (length lent) ≡ none → fields_of file ≡ f → entries (entry_at file) 0 f.scans ≡ s →
    settings_after (read_refusal file (length lent)) file lent ≡ s ++ drop f.scans lent
left_as file lent s f e g h = rw (e, g, h) refl

-- What is written into a lent buffer reads back, where the settings buffer has room for N.
pub written_reads_back : (f : Fields) (settings buffer lent : List ℕ) → write_refusal f settings (length buffer) ≡ none → f.budget < 2 ^ 64 →
    f.scans ≤ length lent → WrittenAndRead f settings buffer lent
written_reads_back f settings buffer lent w small room =
    let file : List ℕ = file_left f settings buffer in
    let same : file ≡ file_of qpl2 f settings = left_is f settings buffer w in
    let kept_version : version_of file ≡ qpl2 = ap version_of same ∙ version_back qpl2 qpl2_known f settings in
    let kept_fields : fields_of file ≡ f = ap fields_of same ∙ fields_back f settings (length buffer) w qpl2 qpl2_known small in
    let kept_settings : entries (entry_at file) 0 f.scans ≡ take f.scans settings =
    ap (λ (l : List ℕ). entries (entry_at l) 0 f.scans) same ∙ settings_back f settings (length buffer) w qpl2 qpl2_known in
    let unrefused : read_refusal file (length lent) ≡ none =
    ap (λ (l : List ℕ). read_refusal l (length lent)) same
    ∙ read_back f settings (length buffer) w qpl2 qpl2_known small (held_in_qpl2 f) (length lent)
    ∙ ap (λ (t : Bool). when t refusal.Buffer) (le-ltb (length lent) f.scans room) in
    record {
      written = written_as f settings (length buffer) w;
      answer = read_as file lent unrefused (λ i. record { fields = kept_fields i; version = kept_version i });
      settings = left_as file lent (take f.scans settings) f unrefused kept_fields kept_settings;
    }

-- What is read is written back, where the file buffer has room.
pub accepted_writes_back : (file lent buffer : List ℕ) → ((i : ℕ) → get_or file i 0 < 256) → read_refusal file (length lent) ≡ none →
    file_length (fields_of file).scans ≤ length buffer → ReadAndWritten file lent buffer
accepted_writes_back file lent buffer bytes e room =
    let f : Fields = fields_of file in
    let kept : List ℕ = entries (entry_at file) 0 f.scans in
    let handed : settings_left file lent ≡ kept =
    ap (λ (l : List ℕ). take f.scans l) (left_as file lent kept f e refl refl) ∙ take_at kept (drop f.scans lent) f.scans (length_entries (entry_at file) 0 f.scans) in
    let unrefused : write_refusal f (settings_left file lent) (length buffer) ≡ none =
    ap (λ (l : List ℕ). write_refusal f l (length buffer)) handed ∙ accepted_plan file (length lent) (length buffer) e room in
    let left : file_left f (settings_left file lent) buffer ≡ file_of qpl2 f (settings_left file lent) = left_is f (settings_left file lent) buffer unrefused in
    record {
      answer = read_as file lent e refl;
      written = written_as f (settings_left file lent) (length buffer) unrefused;
      left = left;
      same = λ v. left ∙ ap (file_of qpl2 f) handed ∙ ap (λ (w : ℕ). file_of w f kept) (sym v) ∙ accepted_file file (length lent) bytes e;
    }
