-- One line judged, and one after the other. Assumes nothing.
use mathlib.Core.Path.{◌≡◌, refl, sym, ap, ◌∙◌}
use mathlib.Core.Bool.{Bool, true, false, not, cond}
use mathlib.Core.Option.{Option, none, some}
use mathlib.Core.List.{List, [], ◌∷◌}
use Prim.Native.Nat.{ℕ, suc, ◌+◌, ◌≤◌, ◌<◌}
use native.Mathlib.Numerals.{add-one}
use native.Mathlib.Omega.{arith}
use lib.Dec.{eqb, ltb, leb}
use lib.ListN.{length, get_or}
use borrow.Author.Tests.{leb-false, ltb-false}
use Rattle.laws.proofs.Tests.{neither, never}
use Rattle.tables.specs.declared.refusal.Refusal.{Refusal}
use Rattle.tables.specs.declared.refusal.Refusal.TheVariants as refusal
use Rattle.tables.specs.Limits.{most_cell}
use Rattle.tables.specs.Tables.{cells}
use Rattle.tables.proofs.CellLaws.{cell_inside}
use Rattle.checks.specs.Checks.{when, or_else}
use Rattle.lines.specs.declared.says.Entry.{Entry}
use Rattle.lines.specs.Text.{lines}
use Rattle.imports.specs.Import.{cell_of, out_of_range, member, seen_with, first_fault}
use Rattle.imports.specs.Left.{said_by}
use Rattle.imports.specs.Parts.{Marks, KeptBehind, LineJudged}
use Rattle.imports.proofs.LeftLaws.{first_said, fault_said}

-- the numbers of a line that are in range
pub record InRange (N Q : ℕ) (e : Entry) : Type 0 where
  pub scan : e.scan < N
  pub previous : e.previous < Q
  pub setting : e.setting < Q
  pub rate : e.rate ≤ most_cell
  pub distortion : e.distortion ≤ most_cell

pub numbers_in_range : {N Q : ℕ} {e : Entry} → out_of_range N Q e ≡ false → InRange N Q e
unfolding out_of_range
numbers_in_range {N} {Q} {e} h =
    let a = neither (leb N e.scan) _ h in
    let b = neither (leb Q e.previous) _ a.1 in
    let c = neither (leb Q e.setting) _ b.1 in
    let d = neither (ltb most_cell e.rate) (ltb most_cell e.distortion) c.1 in
    record {
      scan = leb-false _ _ a.0;
      previous = leb-false _ _ b.0;
      setting = leb-false _ _ c.0;
      rate = ltb-false _ _ d.0;
      distortion = ltb-false _ _ d.1;
    }

-- its cell is one of the table's
pub cell_there : {N Q : ℕ} {e : Entry} → InRange N Q e → cell_of Q e < cells N Q
cell_there {N} {Q} {e} r = cell_inside N Q e.scan e.previous e.setting r.scan r.previous r.setting

-- nothing has changed
pub kept_none : {k : ℕ} (s : List ℕ) → KeptBehind k s s
kept_none s = record { long = refl; rest = λ i h. refl }

pub kept_on : {k : ℕ} {a b c : List ℕ} → KeptBehind k a b → KeptBehind k b c → KeptBehind k a c
kept_on f g = record { long = cc (f.long, g.long); rest = λ i h. cc (f.rest i h, g.rest i h) }

-- a line in range whose cell is marked
pub judged_twice : {N Q k at : ℕ} {s : List ℕ} {e : Entry} {r : Refusal} → out_of_range N Q e ≡ false → at ≡ cell_of Q e →
    some r ≡ when (not (eqb (get_or s at 0) 0)) (refusal.Twice k) → LineJudged N Q k (cells N Q) (some e) s s (some r)
judged_twice {N} {Q} {k} {at} {s} {e} h p f = record {
  found = λ seen m. rw h (f ∙ ap (λ (c : ℕ). when (not (eqb (get_or s c 0) 0)) (refusal.Twice k)) p ∙ by_mark (member (cell_of Q e) seen) (m (cell_of Q e) (cell_there (numbers_in_range h))));
  marked = λ seen m q. never cc;
  kept = kept_none s;
}
  where
    by_mark : (b : Bool) → get_or s (cell_of Q e) 0 ≡ cond b 1 0 → when (not (eqb (get_or s (cell_of Q e) 0) 0)) (refusal.Twice k) ≡ or_else (when b (refusal.Twice k)) none
    by_mark true m = ap (λ (x : ℕ). when (not (eqb x 0)) (refusal.Twice k)) m
    by_mark false m = ap (λ (x : ℕ). when (not (eqb x 0)) (refusal.Twice k)) m

-- what is known before line k, where these are left
pub record JudgedSoFar (N Q : ℕ) (text scratch₀ scratch : List ℕ) (k : ℕ) (left : List (Option Entry)) : Type 0 where
  pub count : k + length left ≡ suc (length (said_by text))
  pub seen : List ℕ
  pub marks : Marks (cells N Q) scratch seen
  pub same : first_fault N Q 1 [] (lines text) ≡ first_said N Q k seen left
  pub kept : KeptBehind (cells N Q) scratch₀ scratch

pub judging_starts : (N Q : ℕ) (text scratch : List ℕ) → Marks (cells N Q) scratch [] → JudgedSoFar N Q text scratch scratch 1 (said_by text)
judging_starts N Q text scratch m =
    record { count = omega arith; seen = []; marks = m; same = fault_said N Q 1 [] (lines text); kept = kept_none scratch }

module _ {N Q : ℕ} {text scratch₀ scratch scratch' : List ℕ} {k : ℕ} {said : Option Entry} {left : List (Option Entry)} {o : Option Refusal}
    (so_far : JudgedSoFar N Q text scratch₀ scratch k (said ∷ left)) (judged : LineJudged N Q k (cells N Q) said scratch scratch' o) where
  -- what is found from this line on
  from_here : first_fault N Q 1 [] (lines text) ≡ or_else o (first_said N Q (suc k) (seen_with Q said so_far.seen) left)
  from_here =
      so_far.same ∙ ap (λ (x : Option Refusal). or_else x (first_said N Q (suc k) (seen_with Q said so_far.seen) left)) (sym (judged.found so_far.seen so_far.marks))

  -- and without one it goes on
  pub judging_goes_on : o ≡ none → JudgedSoFar N Q text scratch₀ scratch' (k + 1) left
  judging_goes_on e = record {
    count = omega (arith, so_far.count);
    seen = seen_with Q said so_far.seen;
    marks = judged.marked so_far.seen so_far.marks e;
    same = rw add-one (from_here ∙ ap (λ (x : Option Refusal). or_else x (first_said N Q (suc k) (seen_with Q said so_far.seen) left)) e);
    kept = kept_on so_far.kept judged.kept;
  }
