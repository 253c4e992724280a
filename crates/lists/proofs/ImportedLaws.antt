-- What is imported is legal. Assumes nothing.
use mathlib.Core.Path.{◌≡◌, refl, sym, ap, ◌∙◌}
use mathlib.Core.Logic.{◌⊎◌, inl, inr}
use mathlib.Core.Option.{Option, none, some}
use mathlib.Core.List.{List, [], ◌∷◌, ◌++◌}
use Prim.Native.Nat.{ℕ, suc, ◌≤◌, ◌<◌}
use native.Mathlib.Decide.{ℕ_discrete}
use native.Mathlib.Omega.{arith}
use lib.ListN.{length, get_or, set, take, drop, length-set, take-append-drop}
use lib.Seq.{length-take-le, get_or-take, get_or-set_same, get_or-set_other, drop-set-lt}
use Rattle.laws.proofs.Tests.{never}
use Rattle.tables.specs.Limits.{most_cell, forbidden}
use Rattle.tables.specs.Tables.{cells}
use Rattle.tables.specs.Legal.{LegalRate, LegalBeside}
use Rattle.checks.proofs.CheckLaws.{none_else}
use Rattle.lines.specs.declared.says.Entry.{Entry}
use Rattle.lines.specs.Text.{lines}
use Rattle.lines.specs.Said.{says_of}
use Rattle.imports.specs.Import.{cell_of, fault, seen_with, first_fault, filled, with_said, rate_of, distortion_of, table_from}
use Rattle.imports.proofs.JudgeLaws.{InRange, cell_there}
use Rattle.imports.proofs.WriteLaws.{good_in_range}
use Rattle.imports.proofs.ImportLaws.{fill_at, fill_room, fill_behind}
use Rattle.lists.specs.Again.{imported_rates, imported_distortions, ImportedLegal}

-- a cell that was named by a line, or by none
abbrev SoundCell : ℕ → ℕ → Type 0
SoundCell r d = ((r ≤ most_cell) × (d ≤ most_cell)) ⊎ ((r ≡ forbidden) × (d ≡ 0))

-- two tables whose first cells are such, with as much room
record Sound (k : ℕ) (rates distortions : List ℕ) : Type 0 where
  rates_room : k ≤ length rates
  distortions_room : k ≤ length distortions
  cells_sound : (i : ℕ) → i < k → SoundCell (get_or rates i 0) (get_or distortions i 0)

-- two tables before and after some lines
record Wrote (k : ℕ) (rates distortions rates' distortions' : List ℕ) : Type 0 where
  sound : Sound k rates' distortions'
  rates_behind : drop k rates' ≡ drop k rates
  distortions_behind : drop k distortions' ≡ drop k distortions

-- one line without a fault
one_line : (N Q k : ℕ) (seen rates distortions : List ℕ) (o : Option Entry) → fault N Q k seen o ≡ none → Sound (cells N Q) rates distortions →
    Wrote (cells N Q) rates distortions (with_said rate_of Q rates o) (with_said distortion_of Q distortions o)
one_line N Q k seen rates distortions none h s = never cc
one_line N Q k seen rates distortions (some e) h s =
    let r : InRange N Q e = good_in_range {N = N} {Q = Q} k seen (some e) refl h in
    let c : cell_of Q e < cells N Q = cell_there r in
    record {
      sound = record {
        rates_room = omega (arith, s.rates_room, length-set rates (cell_of Q e) e.rate);
        distortions_room = omega (arith, s.distortions_room, length-set distortions (cell_of Q e) e.distortion);
        cells_sound = λ i g. at r c i g (ℕ_discrete i (cell_of Q e));
      };
      rates_behind = drop-set-lt (cells N Q) rates (cell_of Q e) e.rate c;
      distortions_behind = drop-set-lt (cells N Q) distortions (cell_of Q e) e.distortion c;
    }
  where
    at : InRange N Q e → cell_of Q e < cells N Q → (i : ℕ) → i < cells N Q → Dec (i ≡ cell_of Q e) →
        SoundCell (get_or (set rates (cell_of Q e) e.rate) i 0) (get_or (set distortions (cell_of Q e) e.distortion) i 0)
    at r c i g (yes z) =
        let p : get_or (set rates (cell_of Q e) e.rate) i 0 ≡ e.rate =
        ap (λ (j : ℕ). get_or (set rates (cell_of Q e) e.rate) j 0) z ∙ get_or-set_same rates (cell_of Q e) e.rate 0 (omega (arith, c, s.rates_room)) in
        let q : get_or (set distortions (cell_of Q e) e.distortion) i 0 ≡ e.distortion =
        ap (λ (j : ℕ). get_or (set distortions (cell_of Q e) e.distortion) j 0) z
        ∙ get_or-set_same distortions (cell_of Q e) e.distortion 0 (omega (arith, c, s.distortions_room)) in
        inl (omega (arith, p, r.rate), omega (arith, q, r.distortion))
    at r c i g (no z) =
        let p = get_or-set_other rates (cell_of Q e) i e.rate 0 z in
        let q = get_or-set_other distortions (cell_of Q e) i e.distortion 0 z in
        rw (p, q) (s.cells_sound i g)

-- and all of them
all_lines : (ls : List (List ℕ)) (N Q k : ℕ) (seen rates distortions : List ℕ) → first_fault N Q k seen ls ≡ none → Sound (cells N Q) rates distortions →
    Wrote (cells N Q) rates distortions (table_from rate_of Q rates ls) (table_from distortion_of Q distortions ls)
all_lines [] N Q k seen rates distortions h s = record { sound = s; rates_behind = refl; distortions_behind = refl }
all_lines (l ∷ ls) N Q k seen rates distortions h s =
    let b = none_else (fault N Q k seen (says_of l)) (first_fault N Q (suc k) (seen_with Q (says_of l) seen) ls) h in
    let one = one_line N Q k seen rates distortions (says_of l) b.0 s in
    let later = all_lines ls N Q (suc k) (seen_with Q (says_of l) seen) (with_said rate_of Q rates (says_of l)) (with_said distortion_of Q distortions (says_of l)) b.1 one.sound in
    record {
      sound = later.sound;
      rates_behind = later.rates_behind ∙ one.rates_behind;
      distortions_behind = later.distortions_behind ∙ one.distortions_behind;
    }

-- tables that are filled are sound
filled_sound : (k : ℕ) (R D : List ℕ) → Sound k (filled k forbidden R) (filled k 0 D)
filled_sound k R D = record {
  rates_room = fill_room k forbidden R;
  distortions_room = fill_room k 0 D;
  cells_sound = λ i h. inr (fill_at k forbidden R i h, fill_at k 0 D i h);
}

legal_of : {r d : ℕ} → SoundCell r d → LegalRate r × LegalBeside 1 r d
legal_of (inl a) = (inl a.0, inl (a.1, omega (arith, a.1)))
legal_of (inr a) = (inr a.0, inr a.0)

zero_of : {r d : ℕ} → SoundCell r d → r ≡ forbidden → d ≡ 0
zero_of (inl a) e = absurd (omega (arith, a.0, e))
zero_of (inr a) e = a.1

-- what is imported from a text without a fault
pub imported_legal : (N Q : ℕ) (text R D : List ℕ) → first_fault N Q 1 [] (lines text) ≡ none → ImportedLegal N Q text R D
imported_legal N Q text R D h =
    let k = cells N Q in
    let r = table_from rate_of Q (filled (cells N Q) forbidden R) (lines text) in
    let d = table_from distortion_of Q (filled (cells N Q) 0 D) (lines text) in
    let w = all_lines (lines text) N Q 1 [] (filled (cells N Q) forbidden R) (filled (cells N Q) 0 D) h (filled_sound (cells N Q) R D) in
    let front : (c : ℕ) → c < cells N Q → SoundCell (get_or (imported_rates N Q text R) c 0) (get_or (imported_distortions N Q text D) c 0) =
    λ c g. let p = get_or-take k r c 0 g in let q = get_or-take k d c 0 g in rw (p, q) (w.sound.cells_sound c g) in
    let long : length (imported_rates N Q text R) ≡ cells N Q = length-take-le k r w.sound.rates_room in
    record {
      rates_long = long;
      distortions_long = length-take-le k d w.sound.distortions_room;
      legal = λ c g. legal_of (front c (omega (arith, long, g)));
      zero_beside = λ c g e. zero_of (front c g) e;
      rates_rest = sym (take-append-drop k r) ∙ ap (λ (l : List ℕ). take k r ++ l) (w.rates_behind ∙ fill_behind k forbidden R);
      distortions_rest = sym (take-append-drop k d) ∙ ap (λ (l : List ℕ). take k d ++ l) (w.distortions_behind ∙ fill_behind k 0 D);
    }
