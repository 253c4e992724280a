-- Theorem a: a plan's file reads back, as one of either version that can hold the plan, whatever test the entries are put to, where the number
-- of the law fits its byte; and where it is a test of a law, they keep it. The writer's is the one of QPL2. Assumes nothing.
use mathlib.Core.Path.{◌≡◌, refl, sym, ap, ◌∙◌}
use mathlib.Core.Bool.{Bool, false, cond}
use mathlib.Core.Option.{none}
use mathlib.Core.List.{List, [], ◌++◌}
use Prim.Native.Nat.{ℕ, zero, suc, ◌+◌, ◌*◌, ◌-◌, ◌/◌, ◌^◌, ◌≤◌, ◌<◌}
use native.Mathlib.Decide.{dec_lt}
use native.Mathlib.Omega.{arith}
use lib.Dec.{eqb, ltb}
use lib.ListN.{length, get_or, take, replicate, length-append}
use borrow.Author.Tests.{lt-ltb, le-ltb, eq-eqb, ne_eqb}
use Rattle.tables.specs.declared.refusal.Refusal.TheVariants as refusal
use Rattle.tables.specs.Law.{Law, Tests, allows, law_out}
use Rattle.tables.proofs.LawLaws.{known_small}
use Rattle.rules.specs.declared.Fields.{Fields}
use Rattle.octets.specs.Bytes.{le, part, number_at}
use Rattle.blocks.specs.Differ.{differ}
use Rattle.blocks.specs.Letters.{no_version, qpl2, Known, letters, version_of}
use Rattle.blocks.specs.File.{InVersion, header, sealed, entry_of, data_from, data_blocks, file_length, file_of, entry_at, other_length}
use Rattle.entries.specs.Entries.{entry_broken, KeepsLaw}
use Rattle.entries.proofs.EntryLaws.{keeps_law}
use Rattle.checks.specs.Checks.{when}
use Rattle.blocks.specs.Blocks.{length_out, block_broken, bad_block}
use Rattle.planfile.specs.Reading.{fields_of, faults_of, broken_field_under, bad_entry_under, read_refusal_under, read_refusal, entries}
use Rattle.planfile.specs.Writing.{no_faults, write_refusal_under, write_refusal}
use Rattle.octets.proofs.NumberLaws.{value_le}
use Rattle.planfile.proofs.EntryLaws.{entries_part}
use Rattle.checks.proofs.CheckLaws.{else_nothing, none_first}
use Rattle.rules.proofs.FieldLaws.{rules_pass, Limited, limited}
use Rattle.planfile.proofs.FieldLaws.{Writable, writable, same_broken, entry_small}
use Rattle.blocks.proofs.LengthLaws.{few_blocks, length_in, same_length, within}
use Rattle.blocks.proofs.LetterLaws.{letters_version}
use Rattle.blocks.proofs.BlockLaws.{length_sealed, block_sound}
use Rattle.blocks.proofs.HeaderLaws.{length_header, small_header, header_number}
use Rattle.blocks.proofs.DataLaws.{length_data, data_sound, entry_there}

-- block 0 is one block
block_0 : (version : ℕ) (f : Fields) → length (sealed version (header version f)) ≡ 512
block_0 version f = length_sealed version (header version f) (length_header version f)

-- a file is as long as its count of settings asks
pub length_back : (version : ℕ) (f : Fields) (settings : List ℕ) → length (file_of version f settings) ≡ file_length f.scans
length_back version f settings =
    let e : ℕ → ℕ = entry_of f.scans settings in
    let n : ℕ = data_blocks f.scans in
    omega (arith, length-append (sealed version (header version f)) (data_from version e 0 n), block_0 version f, length_data version n e 0)

-- so it is one of the two
pub length_sound : (version : ℕ) (f : Fields) (settings : List ℕ) → length_out (length (file_of version f settings)) ≡ false
length_sound version f settings = rw (length_back version f settings) (length_in f.scans)

-- and has as many blocks
blocks_back : (version : ℕ) (f : Fields) (settings : List ℕ) → length (file_of version f settings) / 512 ≡ suc (data_blocks f.scans)
blocks_back version f settings = omega (arith, length_back version f settings)

-- the letters stand in it
letters_back : (version : ℕ) (f : Fields) (settings : List ℕ) → part 4 4 (file_of version f settings) ≡ letters version
unfolding header le
letters_back version f settings = refl

-- and say the version
pub version_back : (version : ℕ) → Known version → (f : Fields) (settings : List ℕ) → version_of (file_of version f settings) ≡ version
version_back version known f settings = letters_version version known (file_of version f settings) (letters_back version f settings)

-- the bytes from 13 on of a plan with no mark
no_mark : (weighted : ℕ) → weighted ≡ 0 → differ (replicate 3 0) (le 1 weighted ++ replicate 2 0) ≡ false
unfolding le
no_mark weighted e = rw e refl

module _ {lawless : Bool} {test : ℕ → ℕ → Bool} (version : ℕ) (known : Known version) (f : Fields) (settings : List ℕ)
    (k : Writable lawless test f settings) where
  -- the file
  abbrev file : List ℕ
  file = file_of version f settings

  -- the limits of its fields
  abbrev bounds : Limited f
  bounds = limited lawless no_faults f k.rules

  -- N reads back
  scans_back : number_at 8 2 file ≡ f.scans
  unfolding number_at header le
  scans_back = value_le 2 f.scans (omega (arith, bounds.scans))

  -- all fields read back
  kept_fields : f.law < 256 → f.budget < 2 ^ 64 → fields_of file ≡ f
  unfolding fields_of number_at header le
  kept_fields l h = λ i. record {
    scans = scans_back i;
    settings = value_le 1 f.settings (omega (arith, bounds.settings)) i;
    law = value_le 1 f.law (omega (arith, l)) i;
    kind = value_le 1 f.kind (omega (arith, bounds.kind)) i;
    budget = value_le 8 f.budget (omega (arith, h)) i;
    n = value_le 4 f.n (omega (arith, bounds.n)) i;
    d = value_le 4 f.d (omega (arith, bounds.d)) i;
    rate = record { 0 = value_le 4 f.rate.0 (omega (arith, bounds.rate)) i };
    distortion = record { 0 = value_le 4 f.distortion.0 (omega (arith, bounds.distortion)) i };
    peak = value_le 4 f.peak (omega (arith, bounds.peak)) i;
    floor = record { 0 = value_le 4 f.floor.0 (omega (arith, bounds.floor)) i };
    weighted = value_le 1 f.weighted (omega (arith, bounds.weighted)) i;
  }

  -- the length goes with the N that is read
  length_kept : other_length (length file) (number_at 8 2 file) ≡ false
  length_kept = rw (length_back version f settings, scans_back) (same_length f.scans)

  -- the letters are known
  letters_kept : eqb (version_of file) no_version ≡ false
  letters_kept = rw (version_back version known f settings) (ne_eqb version no_version (λ e. absurd (omega (arith, e, known.0))))

  -- some byte from 13 to 15 is not zero
  abbrev run_13 : Bool
  run_13 = differ (replicate 3 0) (part 13 3 file)

  -- none is, or QPL2 does not ask
  run_kept : InVersion version f → cond (eqb (version_of file) qpl2) false run_13 ≡ false
  unfolding header le
  run_kept held = ap (λ (v : ℕ). cond (eqb v qpl2) false run_13) (version_back version known f settings) ∙ of (dec_lt version qpl2)
    where
      of : Dec (version < qpl2) → cond (eqb version qpl2) false run_13 ≡ false
      of (yes h) = rw (ne_eqb version qpl2 (λ e. absurd (omega (arith, h, e)))) (no_mark f.weighted (held (omega (arith, known.0, h))))
      of (no h) = rw (eq-eqb version qpl2 (omega (arith, known.1, h))) refl

  -- the letters, the zeros and the length are as they should be
  kept_marks : InVersion version f → faults_of file ≡ no_faults
  unfolding faults_of header le
  kept_marks held = λ i. record { letters = letters_kept i; length = length_kept i; run_13 = run_kept held i; run_14 = false; run_48 = false }

  -- every block is sound
  kept_blocks : bad_block file ≡ none
  unfolding bad_block
  kept_blocks = rw (version_back version known f settings, blocks_back version f settings) (none_first (suc n) (block_broken version file) 0 (λ i l g. at i (omega arith)))
    where
      e : ℕ → ℕ
      e = entry_of f.scans settings

      n : ℕ
      n = data_blocks f.scans

      at : (i : ℕ) → i < suc n → block_broken version file i ≡ false
      at zero g =
          block_sound version [] (header version f) (data_from version e 0 n) 0 refl (length_header version f) (small_header version f) (header_number version f)
      at (suc i) g =
          let p : suc 0 + i ≡ suc i = omega arith in
          rw (sym p)
          (data_sound version e (entry_small f settings k) n 0 (sealed version (header version f)) (block_0 version f) (omega (arith, few_blocks f.scans)) i
          (omega arith))

  -- no field breaks its rule
  kept_rules : InVersion version f → f.law < 256 → f.budget < 2 ^ 64 → broken_field_under lawless file ≡ none
  unfolding broken_field_under
  kept_rules held l h = rw (kept_marks held, kept_fields l h) (rules_pass lawless no_faults f k.rules)

  -- each entry of the data blocks is the one that was written there
  kept_entry : (j : ℕ) → j < 1008 * data_blocks f.scans → entry_at file j ≡ entry_of f.scans settings j
  kept_entry j h =
      entry_there version (entry_of f.scans settings) (entry_small f settings k) (sealed version (header version f)) (data_blocks f.scans) j
      (block_0 version f) h

  -- an entry before N is the setting
  kept_setting : (j : ℕ) → j < f.scans → entry_at file j ≡ get_or settings j 0
  kept_setting j h =
      kept_entry j (omega (arith, within f.scans bounds.scans))
      ∙ ap (λ (t : Bool). cond t (get_or settings j 0) 0) (lt-ltb j f.scans h)

  -- an entry from N on is zero
  kept_filler : (j : ℕ) → f.scans ≤ j → j < 1008 * data_blocks f.scans → entry_at file j ≡ 0
  kept_filler j h g = kept_entry j g ∙ ap (λ (t : Bool). cond t (get_or settings j 0) 0) (le-ltb j f.scans h)

  -- no entry breaks its rule
  entry_kept : (j : ℕ) → j < 1008 * data_blocks f.scans → entry_broken f.scans f.settings test (entry_at file) j ≡ false
  unfolding entry_broken
  entry_kept j g = at (dec_lt j f.scans)
    where
      at : Dec (j < f.scans) → entry_broken f.scans f.settings test (entry_at file) j ≡ false
      at (yes h) =
          same_broken f.scans f.settings test (entry_at file) (λ j. get_or settings j 0) j (kept_setting j h)
          (kept_setting (j - 1) (omega arith))
          ∙ k.entries j h
      at (no h) = rw (le-ltb j f.scans (omega arith), kept_filler j (omega arith) g) refl

  -- and so none is found
  kept_entries : f.law < 256 → f.budget < 2 ^ 64 → bad_entry_under test file ≡ none
  unfolding bad_entry_under
  kept_entries l h =
      let p : length file / 512 - 1 ≡ data_blocks f.scans = omega (arith, blocks_back version f settings) in
      rw (kept_fields l h, p)
      (none_first (1008 * data_blocks f.scans) (entry_broken f.scans f.settings test (entry_at file)) 0
      (λ i m g. entry_kept i (omega arith)))

module _ (lawless : Bool) (test : ℕ → ℕ → Bool) (f : Fields) (settings : List ℕ) (room : ℕ) (written : write_refusal_under lawless test f settings room ≡ none) where
  -- what the writer found
  abbrev found_writable : Writable lawless test f settings
  found_writable = writable lawless test f settings room written

  -- the settings keep the law, of which the writer had a test
  pub written_keeps : {law : Law} → Tests test law → KeepsLaw law f.scans f.settings (λ j. get_or settings j 0)
  written_keeps tests = (keeps_law f.scans f.settings test (λ j. get_or settings j 0) tests).0 found_writable.entries

  module _ (version : ℕ) (known : Known version) where
    -- every block is right
    pub sound_back_under : bad_block (file_of version f settings) ≡ none
    sound_back_under = kept_blocks version known f settings found_writable

    -- the settings read back
    pub settings_back_under : entries (entry_at (file_of version f settings)) 0 f.scans ≡ take f.scans settings
    settings_back_under =
        entries_part (entry_at (file_of version f settings)) settings f.scans 0 0 (omega (arith, found_writable.enough))
        (λ i h. let z : 0 + i ≡ i = omega arith in rw z (kept_setting version known f settings found_writable i h))

    module _ (byte : f.law < 256) (budget : f.budget < 2 ^ 64) where
      -- the fields read back
      pub fields_back_under : fields_of (file_of version f settings) ≡ f
      fields_back_under = kept_fields version known f settings found_writable byte budget

      -- the reader refuses nothing but a buffer that is too short, where the version can hold the plan
      pub read_back_under : InVersion version f → (room' : ℕ) →
          read_refusal_under lawless test (file_of version f settings) room' ≡ when (ltb room' f.scans) refusal.Buffer
      unfolding read_refusal_under
      read_back_under held room' =
          rw (
            length_sound version f settings,
            sound_back_under,
            kept_rules version known f settings found_writable held byte budget,
            fields_back_under,
            kept_entries version known f settings found_writable byte budget,
          )
          (else_nothing (when (ltb room' f.scans) refusal.Buffer))

-- .. and so under every law by its number
module _ (f : Fields) (settings : List ℕ) (room : ℕ) (written : write_refusal f settings room ≡ none) where
  pub settings_back : (version : ℕ) → Known version → entries (entry_at (file_of version f settings)) 0 f.scans ≡ take f.scans settings
  settings_back = settings_back_under (law_out f.law) (allows f.law) f settings room written

  pub sound_back : (version : ℕ) → Known version → bad_block (file_of version f settings) ≡ none
  sound_back = sound_back_under (law_out f.law) (allows f.law) f settings room written

  -- the number of a law that is written fits its byte
  law_fits : f.law < 256
  law_fits = known_small f.law (writable (law_out f.law) (allows f.law) f settings room written).rules.law

  module _ (version : ℕ) (known : Known version) (budget : f.budget < 2 ^ 64) where
    pub fields_back : fields_of (file_of version f settings) ≡ f
    fields_back = fields_back_under (law_out f.law) (allows f.law) f settings room written version known law_fits budget

    pub read_back : InVersion version f → (room' : ℕ) →
        read_refusal (file_of version f settings) room' ≡ when (ltb room' f.scans) refusal.Buffer
    read_back held room' =
        ap (λ (g : Fields). read_refusal_under (law_out g.law) (allows g.law) (file_of version f settings) room') fields_back
        ∙ read_back_under (law_out f.law) (allows f.law) f settings room written version known law_fits budget held room'
