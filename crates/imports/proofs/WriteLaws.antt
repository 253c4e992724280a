-- One line written after the other. Assumes nothing.
use mathlib.Core.Path.{◌≡◌, sym, ap, ◌∙◌}
use mathlib.Core.Bool.{false}
use mathlib.Core.Option.{Option, none, some}
use mathlib.Core.List.{List, []}
use Prim.Native.Nat.{ℕ}
use Rattle.tables.specs.declared.refusal.Refusal.TheVariants as refusal
use Rattle.checks.specs.Checks.{when}
use Rattle.checks.proofs.CheckLaws.{none_else, none_when}
use Rattle.lines.specs.declared.says.Entry.{Entry}
use Rattle.lines.specs.Text.{lines}
use Rattle.imports.specs.Import.{cell_of, out_of_range, member, fault, first_fault, rate_of, distortion_of, table_from}
use Rattle.imports.specs.Left.{said_by}
use Rattle.imports.proofs.LeftLaws.{first_said, fault_said, table_said, from_said}
use Rattle.imports.proofs.JudgeLaws.{InRange, numbers_in_range}

-- a line without a fault says something, and that in range
pub good_in_range : {N Q : ℕ} (k : ℕ) (seen : List ℕ) {e : Entry} (said : Option Entry) → said ≡ some e → fault N Q k seen said ≡ none → InRange N Q e
good_in_range {N} {Q} k seen {e} said is h =
    let f : fault N Q k seen (some e) ≡ none = sym (ap (fault N Q k seen) is) ∙ h in
    numbers_in_range (none_when (out_of_range N Q e) (refusal.OutOfRange k) (none_else (when (out_of_range N Q e) (refusal.OutOfRange k)) _ f).0)

-- a line without a fault names a cell that none before it named
pub new_cell : (N Q k : ℕ) (seen : List ℕ) (e : Entry) → fault N Q k seen (some e) ≡ none → member (cell_of Q e) seen ≡ false
new_cell N Q k seen e h =
    let b = none_else (when (out_of_range N Q e) (refusal.OutOfRange k)) _ h in
    none_when (member (cell_of Q e) seen) (refusal.Twice k) (none_else (when (member (cell_of Q e) seen) (refusal.Twice k)) none b.1).0

-- what is known of a text without a fault, where these lines are left
pub record WrittenSoFar (N Q : ℕ) (text rates₀ distortions₀ rates distortions : List ℕ) (left : List (Option Entry)) : Type 0 where
  pub k : ℕ
  pub seen : List ℕ
  pub none_left : first_said N Q k seen left ≡ none
  pub rates_are : table_from rate_of Q rates₀ (lines text) ≡ table_said rate_of Q rates left
  pub distortions_are : table_from distortion_of Q distortions₀ (lines text) ≡ table_said distortion_of Q distortions left

pub writing_starts : (N Q : ℕ) (text rates distortions : List ℕ) → first_fault N Q 1 [] (lines text) ≡ none →
    WrittenSoFar N Q text rates distortions rates distortions (said_by text)
writing_starts N Q text rates distortions e = record {
  k = 1;
  seen = [];
  none_left = sym (fault_said N Q 1 [] (lines text)) ∙ e;
  rates_are = from_said rate_of Q rates (lines text);
  distortions_are = from_said distortion_of Q distortions (lines text);
}
