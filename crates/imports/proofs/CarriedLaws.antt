-- The line that a refusal carries: lines judged good name different cells, so there are no more of them than cells. Assumes nothing.
use mathlib.Core.Path.{◌≡◌, refl, sym, ap, ◌∙◌}
use mathlib.Core.Bool.{Bool, true, false, cond, ◌||◌}
use mathlib.Core.Option.{Option, none, some}
use mathlib.Core.List.{List, [], ◌∷◌}
use Prim.Native.Nat.{ℕ, zero, suc, ◌≤◌, ◌<◌}
use native.Mathlib.Omega.{arith}
use lib.Dec.{eqb}
use lib.ListN.{length}
use borrow.Author.Tests.{eqb-true, eqb-false}
use Rattle.laws.proofs.Tests.{neither, never}
use Rattle.tables.specs.declared.refusal.Refusal.{Refusal}
use Rattle.tables.specs.declared.refusal.Refusal.TheVariants as refusal
use Rattle.tables.specs.Refusals.{carried_by}
use Rattle.tables.specs.Tables.{cells}
use Rattle.tables.proofs.CellLaws.{cells_small}
use Rattle.checks.specs.Checks.{when, or_else, first_refusal}
use Rattle.checks.specs.Planning.{scans_out, settings_out}
use Rattle.checks.proofs.GiveLaws.{Gives, gives_when, gives_first}
use Rattle.lines.specs.declared.says.Entry.{Entry}
use Rattle.lines.specs.Text.{lines}
use Rattle.lines.specs.Said.{says_of}
use Rattle.imports.specs.Import.{cell_of, out_of_range, member, fault, seen_with, first_fault, import_short, early_import, import_refusal}
use Rattle.imports.proofs.JudgeLaws.{cell_there}
use Rattle.imports.proofs.WriteLaws.{good_in_range, new_cell}
use Rattle.imports.proofs.ImportLaws.{import_admitted}

-- ---- no more different numbers below n than n

abbrev Distinct : List ℕ → Type 0
Distinct [] = Unit {0}
Distinct (x ∷ l) = (member x l ≡ false) × Distinct l

abbrev Below : ℕ → List ℕ → Type 0
Below n [] = Unit {0}
Below n (x ∷ l) = (x < n) × Below n l

abbrev without : ℕ → List ℕ → List ℕ
without x [] = []
without x (y ∷ l) = cond (eqb x y) (without x l) (y ∷ without x l)

-- what is not there cannot be taken out
same_without : (x : ℕ) (l : List ℕ) → member x l ≡ false → without x l ≡ l
same_without x [] e = refl
same_without x (y ∷ l) e =
    let n = neither (eqb x y) (member x l) e in
    ap (λ (b : Bool). cond b (without x l) (y ∷ without x l)) n.0 ∙ ap (λ (t : List ℕ). y ∷ t) (same_without x l n.1)

member_without : (y x : ℕ) (l : List ℕ) → member y l ≡ false → member y (without x l) ≡ false
member_without y x [] e = refl
member_without y x (z ∷ l) e =
    let n = neither (eqb y z) (member y l) e in
    of (eqb x z) n.0 (member_without y x l n.1)
  where
    of : (b : Bool) → eqb y z ≡ false → member y (without x l) ≡ false → member y (cond b (without x l) (z ∷ without x l)) ≡ false
    of true p q = q
    of false p q = ap (λ (t : Bool). t || member y (without x l)) p ∙ q

distinct_without : (x : ℕ) (l : List ℕ) → Distinct l → Distinct (without x l)
distinct_without x [] d = tt
distinct_without x (y ∷ l) d = of (eqb x y) (distinct_without x l d.1)
  where
    of : (b : Bool) → Distinct (without x l) → Distinct (cond b (without x l) (y ∷ without x l))
    of true r = r
    of false r = (member_without y x l d.0, r)

below_without : (n : ℕ) (l : List ℕ) → Below (suc n) l → Below n (without n l)
below_without n [] b = tt
below_without n (y ∷ l) b = of (eqb n y) refl (below_without n l b.1)
  where
    of : (t : Bool) → eqb n y ≡ t → Below n (without n l) → Below n (cond t (without n l) (y ∷ without n l))
    of true e r = r
    of false e r = let d = eqb-false n y e in let h = b.0 in (omega arith, r)

-- one at most is taken out
shorter_by_one : (x : ℕ) (l : List ℕ) → Distinct l → length l ≤ suc (length (without x l))
shorter_by_one x [] d = omega arith
shorter_by_one x (y ∷ l) d = of (eqb x y) refl (shorter_by_one x l d.1)
  where
    of : (t : Bool) → eqb x y ≡ t → length l ≤ suc (length (without x l)) → suc (length l) ≤ suc (length (cond t (without x l) (y ∷ without x l)))
    of true e r =
        let m : member x l ≡ false = ap (λ (z : ℕ). member z l) (eqb-true x y e) ∙ d.0 in
        let p : length (without x l) ≡ length l = ap length (same_without x l m) in
        omega (arith, p)
    of false e r = omega (arith, r)

few : (n : ℕ) (l : List ℕ) → Distinct l → Below n l → length l ≤ n
few zero [] d b = omega arith
few zero (x ∷ l) d b = absurd (let h = b.0 in omega arith)
few (suc n) l d b = omega (arith, shorter_by_one n l d, few n (without n l) (distinct_without n l d) (below_without n l b))

-- ---- the number of a faulty line

-- what a line's fault carries is its number
fault_carries : (N Q k : ℕ) (seen : List ℕ) (o : Option Entry) {r : Refusal} → fault N Q k seen o ≡ some r → carried_by r ≡ k
fault_carries N Q k seen none {r} e = let z : refusal.Malformed k ≡ r = cc in sym (ap carried_by z)
fault_carries N Q k seen (some a) {r} e = of (out_of_range N Q a) (member (cell_of Q a) seen) e
  where
    of : (s t : Bool) → first_refusal (when s (refusal.OutOfRange k) ∷ when t (refusal.Twice k) ∷ []) ≡ some r → carried_by r ≡ k
    of true t h = let z : refusal.OutOfRange k ≡ r = cc in sym (ap carried_by z)
    of false true h = let z : refusal.Twice k ≡ r = cc in sym (ap carried_by z)
    of false false h = never cc

-- a good line names another cell
good_names : (N Q k : ℕ) (seen : List ℕ) (o : Option Entry) → fault N Q k seen o ≡ none → Distinct seen → Below (cells N Q) seen →
    (Distinct (seen_with Q o seen) × Below (cells N Q) (seen_with Q o seen)) × (length (seen_with Q o seen) ≡ suc (length seen))
good_names N Q k seen none e d b = never cc
good_names N Q k seen (some a) e d b =
    (((new_cell N Q k seen a e, d), (cell_there (good_in_range {N = N} {Q = Q} k seen (some a) refl e), b)), refl)

first_carries : (N Q k : ℕ) (seen : List ℕ) (ls : List (List ℕ)) {r : Refusal} → k ≡ suc (length seen) → Distinct seen → Below (cells N Q) seen →
    first_fault N Q k seen ls ≡ some r → carried_by r ≤ suc (cells N Q)
first_carries N Q k seen [] h d b e = never cc
first_carries N Q k seen (l ∷ ls) {r} h d b e =
    of (fault N Q k seen (says_of l)) refl
    (λ p q.
    let g = good_names N Q k seen (says_of l) p d b in
    first_carries N Q (suc k) (seen_with Q (says_of l) seen) ls (omega (arith, h, g.1)) g.0.0 g.0.1 q)
    e
  where
    of : (o : Option Refusal) → fault N Q k seen (says_of l) ≡ o →
        (fault N Q k seen (says_of l) ≡ none → first_fault N Q (suc k) (seen_with Q (says_of l) seen) ls ≡ some r → carried_by r ≤ suc (cells N Q)) →
        or_else o (first_fault N Q (suc k) (seen_with Q (says_of l) seen) ls) ≡ some r → carried_by r ≤ suc (cells N Q)
    of (some x) p later q =
        let z : x ≡ r = cc in
        let c : carried_by r ≡ k = sym (ap carried_by z) ∙ fault_carries N Q k seen (says_of l) p in
        omega (arith, c, h, few (cells N Q) seen d b)
    of none p later q = later p q

-- a refusal that carries at most this
abbrev Small : Refusal → Type 0
Small r = carried_by r ≤ 261905

early_small : (N Q rates distortions scratch : ℕ) → Gives Small (early_import N Q rates distortions scratch)
unfolding early_import
early_small N Q rates distortions scratch =
    gives_first Small (when (scans_out N) refusal.Scans ∷ when (settings_out Q) refusal.Settings ∷ when (import_short N Q rates distortions scratch) refusal.Buffer ∷ []) (
      gives_when Small (scans_out N) refusal.Scans (omega arith),
      (gives_when Small (settings_out Q) refusal.Settings (omega arith), (gives_when Small (import_short N Q rates distortions scratch) refusal.Buffer (omega arith), tt)),
    )

-- "each with its line number": the number that an import carries fits 32 bits, however long the text is
pub import_carries : (N Q : ℕ) (text : List ℕ) (rates distortions scratch : ℕ) {r : Refusal} → import_refusal N Q text rates distortions scratch ≡ some r → carried_by r ≤ 261905
unfolding import_refusal
import_carries N Q text rates distortions scratch {r} e = of (early_import N Q rates distortions scratch) refl (early_small N Q rates distortions scratch) e
  where
    of : (o : Option Refusal) → early_import N Q rates distortions scratch ≡ o → Gives Small o → or_else o (first_fault N Q 1 [] (lines text)) ≡ some r → carried_by r ≤ 261905
    of (some x) p g q = let z : x ≡ r = cc in let c : carried_by x ≡ carried_by r = ap carried_by z in omega (arith, c, g)
    of none p g q =
        let a = import_admitted N Q rates distortions scratch p in
        omega (arith, first_carries N Q 1 [] (lines text) refl tt tt q, cells_small {N = N} {Q = Q} a.scans a.settings)
