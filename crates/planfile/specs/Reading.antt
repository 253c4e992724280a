-- What the reader answers. Assumes nothing.
use Rattle.std.specs.Prelude.{Bool, false, cond, List, [], ◌∷◌, ◌++◌, ℕ, zero, suc, ◌*◌, ◌-◌, ◌/◌, eqb, ltb, length, drop, replicate, Result, Ok, Err}
use Rattle.std.proofs.Math.Option.{Option, none, some}
use Rattle.rules.specs.declared.Faults.{Faults}
use Rattle.blocks.specs.Sizes.{first_run, short_run, last_run, block_size, block_entries}
use Rattle.tables.specs.declared.refusal.Refusal.{Refusal}
use Rattle.tables.specs.declared.refusal.Refusal.TheVariants as refusal
use Rattle.tables.specs.Refusals.{Reply, refused, answered}
use Rattle.checks.specs.Checks.{first_refusal, or_answer, first_from, when, found}
use Rattle.rules.specs.declared.Fields.{Fields}
use Rattle.planfile.specs.declared.read.PlanRead.{PlanRead}
use Rattle.octets.specs.Bytes.{part, number_at}
use Rattle.blocks.specs.Differ.{differ}
use Rattle.blocks.specs.Letters.{no_version, qpl2, version_of}
use Rattle.blocks.specs.File.{entry_at, other_length}
use Rattle.tables.specs.Law.{allows, law_out}
use Rattle.rules.specs.Rules.{header_rules}
use Rattle.entries.specs.Entries.{entry_broken}
use Rattle.blocks.specs.Blocks.{length_out, bad_block}

-- the fields of block 0
unfoldable pub fields_of : List ℕ → Fields
fields_of file = record {
  scans = number_at 8 2 file;
  settings = number_at 10 1 file;
  law = number_at 11 1 file;
  kind = number_at 12 1 file;
  budget = number_at 16 8 file;
  n = number_at 24 4 file;
  d = number_at 28 4 file;
  rate = record { 0 = number_at 32 4 file };
  distortion = record { 0 = number_at 36 4 file };
  peak = number_at 40 4 file;
  floor = record { 0 = number_at 44 4 file };
  weighted = number_at 13 1 file;
}

-- "In QPL2, byte 13 becomes a field of its own ..; 14 to 15 stay zero as the next field. QPL1 keeps 13 to 15 zero.": in QPL1 (and with
-- letters that are neither, which are charged before) 13 to 15 are one run, and where that is broken 14 to 15 do not count any more
unfoldable pub faults_of : List ℕ → Faults
faults_of file = record {
  letters = eqb (version_of file) no_version;
  length = other_length (length file) (number_at 8 2 file);
  run_13 = cond (eqb (version_of file) qpl2) false (differ (replicate first_run 0) (part 13 first_run file));
  run_14 = differ (replicate short_run 0) (part 14 short_run file);
  run_48 = differ (replicate last_run 0) (part 48 last_run file);
}

-- What the reader asks of the file's law is whether it is none of those that a file may carry, and a test of it; so the file sentence is of
-- any law that has a test.
unfoldable pub broken_field_under : (lawless : Bool) → List ℕ → Option Refusal
broken_field_under lawless file = first_refusal (header_rules lawless (faults_of file) (fields_of file))

-- 14: "an entry or filler breaks its rule", with "its entry number": all entries of the data blocks
unfoldable pub bad_entry_under : (ℕ → ℕ → Bool) → List ℕ → Option ℕ
bad_entry_under test file =
    let f = fields_of file in
    first_from (entry_broken f.scans f.settings test (entry_at file)) 0 (block_entries * (length file / block_size - 1))

-- "The reader checks 11, 12, 13, 6, 14"; room is the length of the lent settings buffer
abbrev pub reader_checks_under : (lawless : Bool) → (ℕ → ℕ → Bool) → List ℕ → ℕ → List (Option Refusal)
reader_checks_under lawless test file room =
    when (length_out (length file)) refusal.FileLength
    ∷ found refusal.Block (bad_block file)
    ∷ broken_field_under lawless file
    ∷ when (ltb room (fields_of file).scans) refusal.Buffer
    ∷ found refusal.Entry (bad_entry_under test file)
    ∷ []

unfoldable pub read_refusal_under : (lawless : Bool) → (ℕ → ℕ → Bool) → List ℕ → ℕ → Option Refusal
read_refusal_under lawless test file room = first_refusal (reader_checks_under lawless test file room)

-- "Plan files may carry 2 in byte 11": .. with the law whose number stands there
abbrev pub broken_field : List ℕ → Option Refusal
broken_field file = broken_field_under (law_out (fields_of file).law) file

abbrev pub bad_entry : List ℕ → Option ℕ
bad_entry file = bad_entry_under (allows (fields_of file).law) file

abbrev pub reader_checks : List ℕ → ℕ → List (Option Refusal)
reader_checks file room = reader_checks_under (law_out (fields_of file).law) (allows (fields_of file).law) file room

abbrev pub read_refusal : List ℕ → ℕ → Option Refusal
read_refusal file room = read_refusal_under (law_out (fields_of file).law) (allows (fields_of file).law) file room

-- what a file that is read says: the fields of its plan, and "the reader says which it was", QPL1 or QPL2
abbrev pub plan_read : List ℕ → PlanRead
plan_read file = record { fields = fields_of file; version = version_of file }

-- scans, settings, law, kind, budget, n, d, rate, distortion, peak, floor, version, weighted
abbrev pub read_values : PlanRead → List ℕ
read_values p =
    let f = p.fields in
    f.scans ∷ f.settings ∷ f.law ∷ f.kind ∷ f.budget ∷ f.n ∷ f.d ∷ f.rate.0 ∷ f.distortion.0 ∷ f.peak ∷ f.floor.0 ∷ p.version
    ∷ f.weighted ∷ []

unfoldable pub read_of : List ℕ → ℕ → Reply
read_of file room = or_answer (read_refusal file room) (read_values (plan_read file))

-- the first n entries of a file
abbrev pub entries : (ℕ → ℕ) → ℕ → ℕ → List ℕ
entries e j zero = []
entries e j (suc n) = e j ∷ entries e (suc j) n

-- "The reader hands the first N settings to the lent buffer and changes nothing on a refusal."
abbrev pub settings_after : Option Refusal → List ℕ → List ℕ → List ℕ
settings_after none file settings = entries (entry_at file) 0 (fields_of file).scans ++ drop (fields_of file).scans settings
settings_after (some r) file settings = settings

-- the number and values of the reader's answer
abbrev pub read_reply : Result PlanRead Refusal → Reply
read_reply (Ok p) = answered (read_values p)
read_reply (Err r) = refused r
