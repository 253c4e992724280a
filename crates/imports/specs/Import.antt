-- Document 02, [1], "Import it into the two tables, given N and Q". Assumes nothing.
use Rattle.std.specs.Prelude.{Bool, false, ◌||◌, List, [], ◌∷◌, ◌++◌, ℕ, suc, eqb, ltb, leb, length, set, drop, replicate}
use Rattle.std.proofs.Math.Option.{Option, none, some}
use Rattle.tables.specs.declared.refusal.Refusal.{Refusal}
use Rattle.tables.specs.declared.refusal.Refusal.TheVariants as refusal
use Rattle.tables.specs.Limits.{most_cell, forbidden}
use Rattle.tables.specs.Tables.{cells, cell}
use Rattle.checks.specs.Checks.{when, or_else, first_refusal}
use Rattle.checks.specs.Planning.{scans_out, settings_out}
use Rattle.lines.specs.declared.says.Entry.{Entry}
use Rattle.lines.specs.Text.{lines}
use Rattle.lines.specs.Said.{says_of}

-- the cell that a line names
abbrev pub cell_of : ℕ → Entry → ℕ
cell_of Q e = cell Q e.scan e.previous e.setting

-- 17, "number out of range"
unfoldable pub out_of_range : (N Q : ℕ) → Entry → Bool
out_of_range N Q e =
    leb N e.scan || (leb Q e.previous || (leb Q e.setting || (ltb most_cell e.rate || ltb most_cell e.distortion)))

-- one of these
abbrev pub member : ℕ → List ℕ → Bool
member c [] = false
member c (x ∷ l) = eqb c x || member c l

-- the fault of line k: "16 malformed, 17 number out of range, 18 the same cell twice", where lines before it named the cells of `seen`
abbrev pub fault : (N Q k : ℕ) → List ℕ → Option Entry → Option Refusal
fault N Q k seen none = some (refusal.Malformed k)
fault N Q k seen (some e) =
    first_refusal (when (out_of_range N Q e) (refusal.OutOfRange k) ∷ when (member (cell_of Q e) seen) (refusal.Twice k) ∷ [])

abbrev pub seen_with : ℕ → Option Entry → List ℕ → List ℕ
seen_with Q none seen = seen
seen_with Q (some e) seen = cell_of Q e ∷ seen

-- "then line by line .. each with its line number": the fault of the first line that has one, from line k on
abbrev pub first_fault : (N Q k : ℕ) → List ℕ → List (List ℕ) → Option Refusal
first_fault N Q k seen [] = none
first_fault N Q k seen (l ∷ ls) = or_else (fault N Q k seen (says_of l)) (first_fault N Q (suc k) (seen_with Q (says_of l) seen) ls)

-- 6, "for a short table or scratch": "one byte a cell"
abbrev pub import_short : (N Q rates distortions scratch : ℕ) → Bool
import_short N Q rates distortions scratch = ltb rates (cells N Q) || (ltb distortions (cells N Q) || ltb scratch (cells N Q))

-- the checks before the lines: 1, 2 and 6
unfoldable pub early_import : (N Q rates distortions scratch : ℕ) → Option Refusal
early_import N Q rates distortions scratch =
    first_refusal (when (scans_out N) refusal.Scans ∷ when (settings_out Q) refusal.Settings
    ∷ when (import_short N Q rates distortions scratch) refusal.Buffer ∷ [])

-- what is refused, if anything is
unfoldable pub import_refusal : (N Q : ℕ) (text : List ℕ) (rates distortions scratch : ℕ) → Option Refusal
import_refusal N Q text rates distortions scratch = or_else (early_import N Q rates distortions scratch) (first_fault N Q 1 [] (lines text))

-- a table with what a line says of it, where `number` takes the table's number of what is said
abbrev pub with_said : (number : Entry → ℕ) (Q : ℕ) → List ℕ → Option Entry → List ℕ
with_said number Q table none = table
with_said number Q table (some e) = set table (cell_of Q e) (number e)

-- .. and with what all of them say
abbrev pub table_from : (number : Entry → ℕ) (Q : ℕ) → List ℕ → List (List ℕ) → List ℕ
table_from number Q table [] = table
table_from number Q table (l ∷ ls) = table_from number Q (with_said number Q table (says_of l)) ls

-- "A cell with no line becomes forbidden with distortion 0": x in the first k cells. "extra cells .. never change"
abbrev pub filled : ℕ → ℕ → List ℕ → List ℕ
filled k x table = replicate k x ++ drop k table

-- "Tables and text stay the same on any refusal"; otherwise the table is `fill` where no line names a cell
abbrev pub table_after : (number : Entry → ℕ) (fill : ℕ) → Option Refusal → (N Q : ℕ) (text table : List ℕ) → List ℕ
table_after number fill none N Q text table = table_from number Q (filled (cells N Q) fill table) (lines text)
table_after number fill (some r) N Q text table = table

-- the two tables
abbrev pub rate_of : Entry → ℕ
rate_of e = e.rate

abbrev pub distortion_of : Entry → ℕ
distortion_of e = e.distortion

abbrev pub rates_after : Option Refusal → (N Q : ℕ) (text rates : List ℕ) → List ℕ
rates_after = table_after rate_of forbidden

abbrev pub distortions_after : Option Refusal → (N Q : ℕ) (text distortions : List ℕ) → List ℕ
distortions_after = table_after distortion_of 0

-- "A lent scratch of one byte a cell is zero after success and after 16 to 18"; "scratch too on 1, 2 and 6"
abbrev pub scratch_after : Option Refusal → (N Q : ℕ) (scratch : List ℕ) → List ℕ
scratch_after none N Q scratch = filled (cells N Q) 0 scratch
scratch_after (some r) N Q scratch = scratch

-- all that an import leaves: what it ends with, both tables, scratch
pub record Imported : Type 0 where
  pub ends : Option Refusal
  pub rates : List ℕ
  pub distortions : List ℕ
  pub scratch : List ℕ

abbrev pub import_of : (N Q : ℕ) (text rates distortions scratch : List ℕ) → Imported
import_of N Q text rates distortions scratch =
    let ends = import_refusal N Q text (length rates) (length distortions) (length scratch) in
    record {
      ends = ends;
      rates = rates_after ends N Q text rates;
      distortions = distortions_after ends N Q text distortions;
      scratch = scratch_after (early_import N Q (length rates) (length distortions) (length scratch)) N Q scratch;
    }
