-- What the header rules tell of the fields, and what a writer that refuses nothing has found. Assumes nothing.
use mathlib.Core.Path.{◌≡◌}
use mathlib.Core.Bool.{Bool, false}
use mathlib.Core.Option.{none}
use mathlib.Core.List.{List}
use Prim.Native.Nat.{ℕ, ◌-◌, ◌≤◌, ◌<◌}
use native.Mathlib.Omega.{arith}
use lib.ListN.{length, get_or}
use borrow.Author.Tests.{ltb-false}
use Rattle.tables.specs.declared.refusal.Refusal.TheVariants as refusal
use Rattle.checks.specs.Checks.{found, first_refusal, first_from}
use Rattle.laws.proofs.Tests.{neither}
use Rattle.rules.specs.declared.Fields.{Fields}
use Rattle.blocks.specs.File.{entry_of}
use Rattle.rules.specs.Rules.{header_rules}
use Rattle.entries.specs.Entries.{entry_broken}
use Rattle.planfile.specs.Writing.{no_faults, write_short, write_refusal_under}
use Rattle.entries.proofs.EntryLaws.{entry_below}
use Rattle.puts.proofs.EntryLaws.{setting_small}
use Rattle.checks.proofs.CheckLaws.{none_else, none_when, none_found, none_so}
use Rattle.rules.proofs.FieldLaws.{rules_hold, limited, RulesHold}

-- the header rules are kept, there are N settings, and none of them breaks its rule
pub record Writable (lawless : Bool) (test : ℕ → ℕ → Bool) (f : Fields) (settings : List ℕ) : Type 0 where
  pub rules : RulesHold lawless no_faults f
  pub enough : f.scans ≤ length settings
  pub entries : (j : ℕ) → j < f.scans → entry_broken f.scans f.settings test (λ j. get_or settings j 0) j ≡ false

-- a writer that refuses nothing has found so
pub writable : (lawless : Bool) (test : ℕ → ℕ → Bool) (f : Fields) (settings : List ℕ) (room : ℕ) →
    write_refusal_under lawless test f settings room ≡ none → Writable lawless test f settings
unfolding write_refusal_under
writable lawless test f settings room e =
    let a = none_else (first_refusal (header_rules lawless no_faults f)) _ e in
    let b = none_else _ _ a.1 in
    let short = none_when (write_short f.scans (length settings) room) refusal.Buffer b.0 in
    let bad : ℕ → Bool = entry_broken f.scans f.settings test (λ j. get_or settings j 0) in
    let found_none = none_found refusal.Entry (first_from bad 0 f.scans) (none_else (found refusal.Entry (first_from bad 0 f.scans)) none b.1).0 in
    record {
      rules = rules_hold lawless no_faults f a.0;
      enough = ltb-false (length settings) f.scans (neither _ _ short).0;
      entries = λ j h. none_so f.scans bad 0 found_none j (omega arith) (omega arith);
    }

-- entries that are the same keep the same rule
pub same_broken : (N Q : ℕ) (test : ℕ → ℕ → Bool) (e e' : ℕ → ℕ) (j : ℕ) → e j ≡ e' j → e (j - 1) ≡ e' (j - 1)
    → entry_broken N Q test e j ≡ entry_broken N Q test e' j
unfolding entry_broken
same_broken N Q test e e' j p q = rw (p, q)

-- each entry that is written is of four bits
pub entry_small : {lawless : Bool} {test : ℕ → ℕ → Bool} (f : Fields) (settings : List ℕ) → Writable lawless test f settings → (j : ℕ) →
    entry_of f.scans settings j < 16
entry_small {lawless} {test} f settings k =
    setting_small f.scans settings
    (λ j h.
    omega (
      arith,
      entry_below f.scans f.settings test (λ i. get_or settings i 0) j h (k.entries j h),
      (limited lawless no_faults f k.rules).settings,
    ))
