-- The lines that are left of a text, and what they say. Assumes nothing.
use mathlib.Core.Path.{◌≡◌, refl, sym, ap, ◌∙◌}
use mathlib.Core.Bool.{Bool, true, false}
use mathlib.Core.Option.{Option, none}
use mathlib.Core.List.{List, [], ◌∷◌, map}
use Prim.Native.Nat.{ℕ, zero, suc, ◌+◌, ◌≤◌, ◌<◌, min}
use native.Mathlib.Omega.{arith}
use lib.Dec.{ltb}
use lib.ListN.{length, drop}
use lib.Seq.{slice}
use borrow.Author.Tests.{ltb-true, ltb-false}
use Rattle.tables.specs.declared.refusal.Refusal.{Refusal}
use Rattle.checks.specs.Checks.{or_else}
use Rattle.lines.specs.declared.says.Entry.{Entry}
use Rattle.lines.specs.Text.{after, lines_of, lines}
use Rattle.lines.specs.Said.{says_of}
use Rattle.lines.specs.Parts.{LineEnds}
use Rattle.lines.proofs.LineLaws.{lines_go_on, no_lines}
use Rattle.imports.specs.Import.{fault, seen_with, first_fault, with_said, table_from}
use Rattle.imports.specs.Left.{said_by}

-- a text of no bytes says nothing
pub says_none : (text : List ℕ) → length text ≡ 0 → said_by text ≡ []
says_none text e = ap (map says_of) (no_lines text {at = 0} (omega arith))

-- the lines behind one that ends at `end`, where the next one starts
lines_behind : (text : List ℕ) (end next : ℕ) → next ≡ min (end + 2) (length text) → lines (drop (end + 2) text) ≡ lines (drop next text)
lines_behind text end next q = there (ltb (end + 2) (length text)) refl
  where
    there : (b : Bool) → ltb (end + 2) (length text) ≡ b → lines (drop (end + 2) text) ≡ lines (drop next text)
    there true r =
        let z : end + 2 ≡ next = omega (arith, ltb-true (end + 2) (length text) r) in
        ap (λ (n : ℕ). lines (drop n text)) z
    there false r =
        let z = ltb-false (end + 2) (length text) r in
        no_lines text {at = end + 2} z ∙ sym (no_lines text {at = next} (omega arith))

-- any other says what its first line says, and then what those behind it say
pub says_more : {text : List ℕ} {end next : ℕ} → 0 < length text → LineEnds text 0 end → next ≡ min (end + 2) (length text) →
    said_by text ≡ says_of (slice 0 end text) ∷ said_by (drop next text)
says_more {text} {end} {next} h e q =
    ap (map says_of) (lines_go_on h e ∙ ap (λ (l : List (List ℕ)). slice 0 end text ∷ l) (lines_behind text end next q))

-- no more lines than bytes
pub said_few : (text : List ℕ) → length (said_by text) ≤ length text
unfolding lines
said_few text = few (length text) text
  where
    few : (k : ℕ) (t : List ℕ) → length (map says_of (lines_of k t)) ≤ k
    few zero t = omega arith
    few (suc k) [] = omega arith
    few (suc k) (c ∷ t) = omega (arith, few k (after (c ∷ t)))

-- ---- the definitions over lines, by what the lines say

abbrev pub first_said : (N Q k : ℕ) → List ℕ → List (Option Entry) → Option Refusal
first_said N Q k seen [] = none
first_said N Q k seen (o ∷ os) = or_else (fault N Q k seen o) (first_said N Q (suc k) (seen_with Q o seen) os)

pub fault_said : (N Q k : ℕ) (seen : List ℕ) (ls : List (List ℕ)) → first_fault N Q k seen ls ≡ first_said N Q k seen (map says_of ls)
fault_said N Q k seen [] = refl
fault_said N Q k seen (l ∷ ls) = ap (or_else (fault N Q k seen (says_of l))) (fault_said N Q (suc k) (seen_with Q (says_of l) seen) ls)

abbrev pub table_said : (number : Entry → ℕ) (Q : ℕ) → List ℕ → List (Option Entry) → List ℕ
table_said number Q table [] = table
table_said number Q table (o ∷ os) = table_said number Q (with_said number Q table o) os

pub from_said : (number : Entry → ℕ) (Q : ℕ) (table : List ℕ) (ls : List (List ℕ)) → table_from number Q table ls ≡ table_said number Q table (map says_of ls)
from_said number Q table [] = refl
from_said number Q table (l ∷ ls) = from_said number Q (with_said number Q table (says_of l)) ls
