-- What a cell holds after an import. Assumes nothing.
use mathlib.Core.Path.{◌≡◌, refl, sym, ap, ◌∙◌}
use mathlib.Core.Logic.{◌≢◌, ◌⊎◌, inl, inr}
use mathlib.Core.Bool.{Bool, true, false, ◌||◌}
use mathlib.Core.Option.{Option, none, some}
use mathlib.Core.List.{List, [], ◌∷◌}
use Prim.Native.Nat.{ℕ, suc, ◌≤◌}
use native.Mathlib.Omega.{arith}
use lib.Dec.{eqb}
use lib.ListN.{length, get_or, length-set}
use lib.Seq.{get_or-set_same, get_or-set_other}
use borrow.Author.Tests.{eq-eqb}
use Rattle.laws.proofs.Tests.{never}
use Rattle.tables.specs.declared.refusal.Refusal.{Refusal}
use Rattle.tables.specs.Limits.{forbidden}
use Rattle.tables.specs.Tables.{cells}
use Rattle.checks.proofs.CheckLaws.{none_else}
use Rattle.lines.specs.declared.says.Entry.{Entry}
use Rattle.lines.specs.Text.{lines}
use Rattle.lines.specs.Said.{says_of}
use Rattle.imports.specs.Import.{cell_of, member, fault, seen_with, first_fault, with_said, table_from, filled, table_after, rate_of, distortion_of, import_of}
use Rattle.imports.proofs.JudgeLaws.{InRange, cell_there}
use Rattle.imports.proofs.WriteLaws.{good_in_range, new_cell}
use Rattle.imports.proofs.ImportLaws.{length_filled, fill_at, import_passed}
use Rattle.lists.specs.Calls.{Says, EveryCell}

-- a line without a fault names a cell that none before it named, so no line names it again
not_again : (ls : List (List ℕ)) (N Q k : ℕ) (seen : List ℕ) (c : ℕ) → first_fault N Q k seen ls ≡ none → member c seen ≡ true →
    (e : Entry) → Says ls e → cell_of Q e ≢ c
not_again [] N Q k seen c h m e s z = s
not_again (l ∷ ls) N Q k seen c h m e s z =
    let b = none_else (fault N Q k seen (says_of l)) (first_fault N Q (suc k) (seen_with Q (says_of l) seen) ls) h in
    of b.0 (not_again ls N Q (suc k) (seen_with Q (says_of l) seen) c b.1 (still (says_of l)) e) s
  where
    still : (o : Option Entry) → member c (seen_with Q o seen) ≡ true
    still none = m
    still (some x) = later (eqb c (cell_of Q x))
      where
        later : (t : Bool) → (t || member c seen) ≡ true
        later true = refl
        later false = m

    of : fault N Q k seen (says_of l) ≡ none → (Says ls e → cell_of Q e ≢ c) → (says_of l ≡ some e) ⊎ Says ls e → ⊥
    of b later (inl p) =
        let n : member (cell_of Q e) seen ≡ false = new_cell N Q k seen e (sym (ap (fault N Q k seen) p) ∙ b) in
        let y : true ≡ false = sym (ap (λ (j : ℕ). member j seen) z ∙ m) ∙ n in
        never cc
    of b later (inr p) = later p z

-- a cell that no line names stays as it was
pub untouched : (number : Entry → ℕ) (Q : ℕ) (ls : List (List ℕ)) (t : List ℕ) (c : ℕ) → ((e : Entry) → Says ls e → cell_of Q e ≢ c) →
    get_or (table_from number Q t ls) c 0 ≡ get_or t c 0
untouched number Q [] t c n = refl
untouched number Q (l ∷ ls) t c n =
    untouched number Q ls (with_said number Q t (says_of l)) c (λ e s. n e (inr s)) ∙ of (says_of l) (λ e p. n e (inl p))
  where
    of : (o : Option Entry) → ((e : Entry) → o ≡ some e → cell_of Q e ≢ c) → get_or (with_said number Q t o) c 0 ≡ get_or t c 0
    of none f = refl
    of (some x) f = get_or-set_other t (cell_of Q x) c (number x) 0 (λ z. f x refl (sym z))

-- a cell that a line names holds what it says
pub said_there : (number : Entry → ℕ) (ls : List (List ℕ)) (N Q k : ℕ) (seen t : List ℕ) → first_fault N Q k seen ls ≡ none → cells N Q ≤ length t →
    (e : Entry) → Says ls e → get_or (table_from number Q t ls) (cell_of Q e) 0 ≡ number e
said_there number [] N Q k seen t h room e s = absurd s
said_there number (l ∷ ls) N Q k seen t h room e s =
    let b = none_else (fault N Q k seen (says_of l)) (first_fault N Q (suc k) (seen_with Q (says_of l) seen) ls) h in
    of b (said_there number ls N Q (suc k) (seen_with Q (says_of l) seen) (with_said number Q t (says_of l)) b.1 (roomy (says_of l)) e) s
  where
    roomy : (o : Option Entry) → cells N Q ≤ length (with_said number Q t o)
    roomy none = room
    roomy (some x) = omega (arith, room, length-set t (cell_of Q x) (number x))

    of : (fault N Q k seen (says_of l) ≡ none) × (first_fault N Q (suc k) (seen_with Q (says_of l) seen) ls ≡ none) →
        (Says ls e → get_or (table_from number Q (with_said number Q t (says_of l)) ls) (cell_of Q e) 0 ≡ number e) → (says_of l ≡ some e) ⊎ Says ls e →
        get_or (table_from number Q (with_said number Q t (says_of l)) ls) (cell_of Q e) 0 ≡ number e
    of b later (inl p) =
        let r : InRange N Q e = good_in_range {N = N} {Q = Q} k seen (says_of l) p b.0 in
        let m : member (cell_of Q e) (cell_of Q e ∷ seen) ≡ true = ap (λ (x : Bool). x || member (cell_of Q e) seen) (eq-eqb (cell_of Q e) (cell_of Q e) refl) in
        let g : member (cell_of Q e) (seen_with Q (says_of l) seen) ≡ true = ap (λ (o : Option Entry). member (cell_of Q e) (seen_with Q o seen)) p ∙ m in
        untouched number Q ls (with_said number Q t (says_of l)) (cell_of Q e) (not_again ls N Q (suc k) (seen_with Q (says_of l) seen) (cell_of Q e) b.1 g)
        ∙ ap (λ (o : Option Entry). get_or (with_said number Q t o) (cell_of Q e) 0) p
        ∙ get_or-set_same t (cell_of Q e) (number e) 0 (omega (arith, cell_there r, room))
    of b later (inr p) = later p

-- every cell, after an import that is not refused
pub every_cell : (N Q : ℕ) (text R D S : List ℕ) → (import_of N Q text R D S).ends ≡ none → EveryCell N Q text R D S
every_cell N Q text R D S h =
    let p = import_passed N Q text R D S h in
    let k = cells N Q in
    let rates_room = length_filled (cells N Q) forbidden R p.0.rates_long in
    let distortions_room = length_filled (cells N Q) 0 D p.0.distortions_long in
    let r : (import_of N Q text R D S).rates ≡ table_from rate_of Q (filled (cells N Q) forbidden R) (lines text) =
    ap (λ (o : Option Refusal). table_after rate_of forbidden o N Q text R) h in
    let d : (import_of N Q text R D S).distortions ≡ table_from distortion_of Q (filled (cells N Q) 0 D) (lines text) =
    ap (λ (o : Option Refusal). table_after distortion_of 0 o N Q text D) h in
    record {
      named_rate = λ e s. ap (λ (t : List ℕ). get_or t (cell_of Q e) 0) r
          ∙ said_there rate_of (lines text) N Q 1 [] (filled (cells N Q) forbidden R) p.1 (omega (arith, rates_room, p.0.rates_long)) e s;
      named_distortion = λ e s. ap (λ (t : List ℕ). get_or t (cell_of Q e) 0) d
          ∙ said_there distortion_of (lines text) N Q 1 [] (filled (cells N Q) 0 D) p.1 (omega (arith, distortions_room, p.0.distortions_long)) e s;
      unnamed_rate = λ c g n. ap (λ (t : List ℕ). get_or t c 0) r ∙ untouched rate_of Q (lines text) (filled (cells N Q) forbidden R) c n ∙ fill_at k forbidden R c g;
      unnamed_distortion = λ c g n. ap (λ (t : List ℕ). get_or t c 0) d ∙ untouched distortion_of Q (lines text) (filled (cells N Q) 0 D) c n ∙ fill_at k 0 D c g;
    }
