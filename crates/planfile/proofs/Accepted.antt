-- Theorem b: every accepted file is the one that its plan has, as one of the version that its letters say, and the writer accepts that plan,
-- whatever test the entries are put to; and where it is a test of a law, they keep it. Assumes nothing.
use mathlib.Core.Path.{◌≡◌, refl, sym, ap, ◌∙◌}
use mathlib.Core.Bool.{Bool, true, false, not, ◌||◌, ◌&&◌, cond}
use mathlib.Core.Option.{none}
use mathlib.Core.List.{List}
use Prim.Native.Nat.{ℕ, suc, ◌+◌, ◌*◌, ◌-◌, ◌/◌, ◌≤◌, ◌<◌}
use native.Mathlib.Omega.{arith}
use lib.Dec.{eqb, ltb}
use lib.ListN.{length, get_or}
use lib.Seq.{take_all}
use borrow.Author.Tests.{eqb-true, not-false, ltb-true, ltb-false, le-ltb}
use Rattle.tables.specs.declared.refusal.Refusal.TheVariants as refusal
use Rattle.checks.specs.Planning.{scans_out}
use Rattle.laws.proofs.Tests.{neither}
use Rattle.rules.specs.declared.Fields.{Fields}
use Rattle.octets.specs.Bytes.{number_at}
use Rattle.blocks.specs.Letters.{Known, version_of}
use Rattle.blocks.specs.File.{InVersion, entry_of, header, data_blocks, file_length, file_of, entry_at}
use Rattle.tables.specs.Law.{Law, Tests, allows, law_out}
use Rattle.entries.specs.Entries.{entry_broken, KeepsLaw}
use Rattle.entries.proofs.EntryLaws.{keeps_law}
use Rattle.checks.specs.Checks.{found, when}
use Rattle.blocks.specs.Blocks.{length_out, block_broken, bad_block}
use Rattle.planfile.specs.Reading.{fields_of, faults_of, broken_field_under, bad_entry_under, read_refusal_under, read_refusal, entries}
use Rattle.planfile.specs.Writing.{no_faults, write_short, write_refusal_under, write_refusal}
use Rattle.octets.proofs.PartLaws.{part_join}
use Rattle.octets.proofs.NumberLaws.{Bytes}
use Rattle.planfile.proofs.EntryLaws.{length_entries, get_or_entries}
use Rattle.checks.proofs.CheckLaws.{none_else, else_none, none_when, none_found, none_so, none_first}
use Rattle.rules.proofs.FieldLaws.{RulesHold, rules_hold, rules_pass, limited}
use Rattle.planfile.proofs.FieldLaws.{same_broken}
use Rattle.blocks.proofs.LengthLaws.{within, right_length}
use Rattle.blocks.proofs.LetterLaws.{version_known}
use Rattle.blocks.proofs.SoundLaws.{sealed_part, blocks_part}
use Rattle.planfile.proofs.HeaderLaws.{held_part, header_part}

-- what an accepted file has passed
pub record ReadThrough (lawless : Bool) (test : ℕ → ℕ → Bool) (file : List ℕ) (room : ℕ) : Type 0 where
  pub blocks : bad_block file ≡ none
  pub rules : RulesHold lawless (faults_of file) (fields_of file)
  pub enough : (fields_of file).scans ≤ room
  pub entries : bad_entry_under test file ≡ none

-- a file that is not refused has passed them
pub passed_under : (lawless : Bool) (test : ℕ → ℕ → Bool) (file : List ℕ) (room : ℕ) → read_refusal_under lawless test file room ≡ none →
    ReadThrough lawless test file room
unfolding read_refusal_under broken_field_under
passed_under lawless test file room e =
    let a = none_else (when (length_out (length file)) refusal.FileLength) _ e in
    let b = none_else (found refusal.Block (bad_block file)) _ a.1 in
    let c = none_else (broken_field_under lawless file) _ b.1 in
    let d = none_else (when (ltb room (fields_of file).scans) refusal.Buffer) _ c.1 in
    record {
      blocks = none_found refusal.Block (bad_block file) b.0;
      rules = rules_hold lawless (faults_of file) (fields_of file) c.0;
      enough = ltb-false room (fields_of file).scans (none_when (ltb room (fields_of file).scans) refusal.Buffer d.0);
      entries = none_found refusal.Entry (bad_entry_under test file) (none_else (found refusal.Entry (bad_entry_under test file)) none d.1).0;
    }

-- entries that keep their rules are those of a plan of the first N of them: from N on they are zero
shown : (N Q : ℕ) (test : ℕ → ℕ → Bool) (e : ℕ → ℕ) (j : ℕ) → entry_broken N Q test e j ≡ false → entry_of N (entries e 0 N) j ≡ e j
unfolding entry_broken
shown N Q test e j rules_hold = by (ltb j N) (ltb-true j N) rules_hold
  where
    by : (b : Bool) → (b ≡ true → j < N)
        → cond b (not (ltb (e j) Q) || (ltb 0 j && not (test (e (j - 1)) (e j)))) (not (eqb (e j) 0)) ≡ false
        → cond b (get_or (entries e 0 N) j 0) 0 ≡ e j
    by true f k = get_or_entries e 0 N j (f refl) ∙ ap e (omega arith)
    by false f k = sym (eqb-true (e j) 0 (not-false _ k))

module _ {lawless : Bool} {test : ℕ → ℕ → Bool} (file : List ℕ) (room : ℕ) (h : ReadThrough lawless test file room) where
  -- the fields of the file
  abbrev f : Fields
  f = fields_of file

  -- the settings that the reader hands out
  abbrev settings : List ℕ
  settings = entries (entry_at file) 0 f.scans

  -- f.scans is in its range, and no other length is marked
  scans_rule : (scans_out f.scans ≡ false) × ((faults_of file).length ≡ false)
  scans_rule = neither (scans_out f.scans) (faults_of file).length h.rules.scans

  -- the file has the length that goes with N
  long : length file ≡ file_length f.scans
  unfolding faults_of fields_of
  long = right_length (length file) (number_at 8 2 file) scans_rule.1

  -- every block of the file has its number and check
  sound_block : (k : ℕ) → k < suc (data_blocks f.scans) → block_broken (version_of file) file k ≡ false
  unfolding bad_block
  sound_block k g = none_so (length file / 512) (block_broken (version_of file) file) 0 h.blocks k (omega arith) (omega (arith, long))

  -- every entry of its data blocks keeps its rule
  sound_entry : (j : ℕ) → j < 1008 * data_blocks f.scans
      → entry_broken f.scans f.settings test (entry_at file) j ≡ false
  unfolding bad_entry_under
  sound_entry j g = none_so (1008 * (length file / 512 - 1)) _ 0 h.entries j (omega arith) (omega (arith, long))

  -- so those before N keep the law
  kept_law : {law : Law} → Tests test law → KeepsLaw law f.scans f.settings (entry_at file)
  kept_law tests =
      let most : f.scans ≤ 1024 = (limited lawless (faults_of file) f h.rules).scans in
      (keeps_law f.scans f.settings test (entry_at file) tests).0 (λ j g. sound_entry j (omega (arith, within f.scans most)))

  -- the settings that the reader hands out are the entries of the data blocks
  same_entry : (j : ℕ) → j < 1008 * data_blocks f.scans
      → entry_of f.scans settings j ≡ entry_at file j
  same_entry j g = shown f.scans f.settings test (entry_at file) j (sound_entry j g)

  -- its letters are those of a version
  known_letters : Known (version_of file)
  unfolding faults_of
  known_letters = version_known file h.rules.letters

  -- and that version holds the plan
  held_in_file : InVersion (version_of file) f
  held_in_file = held_part file (omega (arith, long)) h.rules

  -- the file is its block 0 and its data blocks
  written_back : Bytes file → file_of (version_of file) f settings ≡ file
  written_back bytes =
      let n = data_blocks f.scans in
      let whole : 512 + 512 * n ≡ length file = omega (arith, long) in
      let broken : block_broken (version_of file) file 0 ≡ false = sound_block 0 (omega arith) in
      part_join file 0 512 (512 * n)
      (sealed_part (version_of file) file bytes 0 (header (version_of file) f) (omega arith) broken (header_part file bytes (version_of file) (omega arith) broken h.rules))
      (blocks_part (version_of file) file bytes (entry_of f.scans settings) n 0 (omega arith) (λ k g. sound_block k (omega arith))
      (λ j g. same_entry j (omega arith)))
      ∙ take_all (512 + 512 * n) file (omega arith)

  -- the header rules hold of what is written, too
  written_rules : RulesHold lawless no_faults f
  written_rules =
      let k = h.rules in
      record {
        letters = refl;
        scans = rw scans_rule.0;
        settings = k.settings;
        law = k.law;
        kind = k.kind;
        weighted = (neither (faults_of file).run_13 _ k.weighted).1;
        run_14 = refl;
        n = k.n;
        d = k.d;
        rate = k.rate;
        distortion = k.distortion;
        peak = k.peak;
        floor = k.floor;
        run_48 = refl;
      }

  -- the settings that the reader hands out keep their rules
  written_entries : (j : ℕ) → j < f.scans
      → entry_broken f.scans f.settings test
      (λ j. get_or settings j 0) j ≡ false
  written_entries j g =
      let most : f.scans ≤ 1024 = (limited lawless (faults_of file) f h.rules).scans in
      let get : (i : ℕ) → i < f.scans → get_or settings i 0 ≡ entry_at file i =
      λ i l. get_or_entries (entry_at file) 0 f.scans i l ∙ ap (entry_at file) (omega arith) in
      same_broken f.scans f.settings test (λ j. get_or settings j 0) (entry_at file) j
      (get j g) (get (j - 1) (omega arith))
      ∙ sound_entry j (omega (arith, within f.scans most))

  -- neither the settings nor a buffer of the file's length are short
  not_short : (room₂ : ℕ) → file_length f.scans ≤ room₂
      → write_short f.scans (length settings) room₂ ≡ false
  not_short room₂ g =
      let N = f.scans in
      rw (length_entries (entry_at file) 0 N, le-ltb N N (omega arith), le-ltb room₂ (file_length N) g) refl

  -- so the writer refuses nothing
  written_accepted : (room₂ : ℕ) → file_length f.scans ≤ room₂
      → write_refusal_under lawless test f settings room₂ ≡ none
  unfolding write_refusal_under
  written_accepted room₂ g =
      else_none _ _ (rules_pass lawless no_faults f written_rules)
      (else_none _ _ (ap (λ (b : Bool). when b refusal.Buffer) (not_short room₂ g))
      (else_none _ none (ap (found refusal.Entry) (none_first f.scans _ 0 (λ j l k. written_entries j (omega arith)))) refl))

-- Theorem b: every accepted file is the one that its plan has in its version.
module _ (lawless : Bool) (test : ℕ → ℕ → Bool) (file : List ℕ) (room : ℕ) (accepted : read_refusal_under lawless test file room ≡ none) where
  pub accepted_file_under : ((i : ℕ) → get_or file i 0 < 256) → file_of (version_of file) (fields_of file) (entries (entry_at file) 0 (fields_of file).scans) ≡ file
  accepted_file_under bytes = written_back file room (passed_under lawless test file room accepted) bytes

  -- Its version is one of the two.
  pub accepted_known_under : Known (version_of file)
  accepted_known_under = known_letters file room (passed_under lawless test file room accepted)

  -- And that version holds the plan: a QPL1 file has no mark.
  pub accepted_held_under : InVersion (version_of file) (fields_of file)
  accepted_held_under = held_in_file file room (passed_under lawless test file room accepted)

  -- Its settings keep the law, of which the reader had a test.
  pub accepted_keeps : {law : Law} → Tests test law → KeepsLaw law (fields_of file).scans (fields_of file).settings (entry_at file)
  accepted_keeps tests = kept_law file room (passed_under lawless test file room accepted) tests

  -- And the writer accepts that plan, where the buffer has room for the file.
  pub accepted_plan_under : (room₂ : ℕ) → file_length (fields_of file).scans ≤ room₂ →
      write_refusal_under lawless test (fields_of file) (entries (entry_at file) 0 (fields_of file).scans) room₂ ≡ none
  accepted_plan_under room₂ = written_accepted file room (passed_under lawless test file room accepted) room₂

-- .. and so under every law by its number
pub passed : (file : List ℕ) (room : ℕ) → read_refusal file room ≡ none →
    ReadThrough (law_out (fields_of file).law) (allows (fields_of file).law) file room
passed file room e = passed_under (law_out (fields_of file).law) (allows (fields_of file).law) file room e

pub accepted_file : (file : List ℕ) (room : ℕ) → ((i : ℕ) → get_or file i 0 < 256) → read_refusal file room ≡ none
    → file_of (version_of file) (fields_of file) (entries (entry_at file) 0 (fields_of file).scans) ≡ file
accepted_file file room bytes e = accepted_file_under (law_out (fields_of file).law) (allows (fields_of file).law) file room e bytes

pub accepted_known : (file : List ℕ) (room : ℕ) → read_refusal file room ≡ none → Known (version_of file)
accepted_known file room e = accepted_known_under (law_out (fields_of file).law) (allows (fields_of file).law) file room e

pub accepted_held : (file : List ℕ) (room : ℕ) → read_refusal file room ≡ none → InVersion (version_of file) (fields_of file)
accepted_held file room e = accepted_held_under (law_out (fields_of file).law) (allows (fields_of file).law) file room e

pub accepted_plan : (file : List ℕ) (room room₂ : ℕ) → read_refusal file room ≡ none → file_length (fields_of file).scans ≤ room₂
    → write_refusal (fields_of file) (entries (entry_at file) 0 (fields_of file).scans) room₂ ≡ none
accepted_plan file room room₂ e = accepted_plan_under (law_out (fields_of file).law) (allows (fields_of file).law) file room e room₂
