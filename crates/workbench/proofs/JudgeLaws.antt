-- What the numbers ask, by the tests of the code. Assumes nothing.
use mathlib.Core.Path.{◌≡◌, refl, sym, ap, ◌∙◌}
use mathlib.Core.Bool.{Bool, true, false, cond, not, ◌||◌, ◌&&◌}
use mathlib.Core.Option.{Option, none, some}
use mathlib.Core.List.{List, [], ◌++◌}
use Prim.Native.Nat.{ℕ, ◌+◌, ◌-◌, ◌*◌, ◌≤◌, ◌<◌, min}
use native.Mathlib.Omega.{arith}
use lib.Dec.{eqb, ltb}
use lib.ListN.{length, take, drop, length-take, length-drop}
use lib.Seq.{take-add, take-take, drop_at, drop-drop}
use borrow.Author.Tests.{eqb-true, eqb-false, le-ltb, lt-ltb}
use Rattle.std.specs.Prelude.{Result, Ok, Err}
use Rattle.std.specs.Result.{is_err}
use Rattle.tables.specs.declared.refusal.Refusal.{Refusal}
use Rattle.tables.specs.declared.refusal.Refusal.TheVariants.{Scans, Settings, StepLaw}
use Rattle.tables.specs.Tables.{cells}
use Rattle.checks.proofs.CheckLaws.{none_when, none_else}
use Rattle.checks.specs.Checks.{when, or_else}
use Rattle.checks.specs.Planning.{scans_out, settings_out}
use Rattle.tables.specs.Law.{law_out}
use Rattle.laws.proofs.Tests.{never}
use Rattle.reading.specs.Fed.{as_words, taken_of}
use Rattle.reading.specs.declared.State.{State}
use Rattle.workbench.specs.Request.{Request, bad_input, to_plan, request, most_cells}
use Rattle.workbench.specs.Done.{settles}
use Rattle.workbench.specs.Parts.{Planable, Heads, Requests, VerdictOf, plan_requested, scans, settings, law, budget, rates, distortions, out_by}
use Rattle.workbench.specs.declared.judge.Unplanned.{Unplanned}
use Rattle.workbench.specs.declared.judge.Unplanned.TheVariants as unplanned
use Rattle.workbench.proofs.RequestLaws.{settled, rest_requested, by_words, four_given, too_few, rest_other, rest_cells, all_taken, not_taken}

-- where the ranges pass, N is in its range
pub scans_inside : (n : List ℕ) → out_by n ≡ none → scans_out (scans n) ≡ false
scans_inside n e = none_when (scans_out (scans n)) Scans (none_else (when (scans_out (scans n)) Scans) _ e).0

-- a table that is planned is not too large
not_large : {n : List ℕ} {k : ℕ} → Planable n k → ltb most_cells (cells (scans n) (settings n)) ≡ false
not_large {n} {k} f = let c = f.counted in let m = f.few in le-ltb most_cells (cells (scans n) (settings n)) (omega arith)

-- whether they settle what is asked: out of range, or else by the size
abbrev settles_by : Option Refusal → Bool → Bool
settles_by (some r) large = true
settles_by none large = large

by_range : (n : List ℕ) → settles n ≡ settles_by (out_by n) (ltb most_cells (cells (scans n) (settings n)))
by_range n = by_tests (scans_out (scans n)) (settings_out (settings n)) (law_out (law n)) _
  where
    by_tests : (p q s l : Bool) → (p || q || s || l) ≡ settles_by (or_else (when p Scans) (or_else (when q Settings) (or_else (when s StepLaw) none))) l
    by_tests true q s l = refl
    by_tests false true s l = refl
    by_tests false false true l = refl
    by_tests false false false l = refl

pub head_settles : (n : List ℕ) (h : Result ℕ Unplanned) → Heads n h → settles n ≡ is_err h
head_settles n (Err unplanned.BadInput) e = absurd e
head_settles n (Err (unplanned.OutOfRange r)) e = rw e at (by_range n)
head_settles n (Err unplanned.TooLarge) e = rw e.0 at (by_range n) ∙ lt-ltb _ _ e.1
head_settles n (Ok k) f = rw f.in_range at (by_range n) ∙ not_large f

-- what is asked beyond the first four
abbrev left_requested : List ℕ → State → Request
left_requested n s = cond s.more bad_input (rest_requested n (as_words (drop 4 (taken_of n s)) ++ []))

module _ (n : List ℕ) (s : State) (len : 8196 ≤ length n) where
  pub few_requested : s.taken < 4 → Requests n s bad_input
  few_requested h text fed = by_more s.more refl
    where
      by_more : (b : Bool) → s.more ≡ b → request text ≡ bad_input
      by_more true e = not_taken text n s len fed e ∙ ap (λ (t : Bool). cond t bad_input (settled n bad_input)) (lt-ltb s.taken 4 h)
      by_more false e = by_words text (all_taken text n s fed e).1 ∙ too_few n s.taken [] h (λ j. refl)

  four_requested : 4 ≤ s.taken → Requests n s (settled n (left_requested n s))
  four_requested h text fed = by_more s.more refl
    where
      by_more : (b : Bool) → s.more ≡ b →
          request text ≡ settled n (cond b bad_input (rest_requested n (as_words (drop 4 (taken_of n s)) ++ [])))
      by_more true e = not_taken text n s len fed e ∙ ap (λ (t : Bool). cond t bad_input (settled n bad_input)) (le-ltb s.taken 4 h)
      by_more false e = let t = all_taken text n s fed e in by_words text t.1 ∙ four_given n s.taken [] h t.0

  -- why nothing is planned, as the first four numbers settle it
  pub unplanned_requested : (u : Unplanned) → 4 ≤ s.taken → Heads n (Err u) → VerdictOf n s (Err u)
  unplanned_requested unplanned.BadInput h e = absurd e
  unplanned_requested (unplanned.OutOfRange r) h e = λ text fed. rw e at (four_requested h text fed)
  unplanned_requested unplanned.TooLarge h e = λ text fed. rw (e.0, lt-ltb _ _ e.1) at (four_requested h text fed)

  -- in range and not too large: the rest decides
  rest_decides : {k : ℕ} → 4 ≤ s.taken → Planable n k → Requests n s (left_requested n s)
  rest_decides h f text fed = rw (f.in_range, not_large f) at (four_requested h text fed)

  -- the numbers after the first four
  after_four : (k : ℕ) → k ≤ most_cells → s.taken ≡ 4 + 2 * k → drop 4 (taken_of n s) ≡ take (2 * k) (drop 4 n)
  after_four k h e =
      ap (λ (t : ℕ). drop 4 (take t n)) e ∙ ap (λ (l : List ℕ). drop 4 l) (take-add 4 (2 * k) n)
      ∙ drop_at (take 4 n) (take (2 * k) (drop 4 n)) 4 (let l : length (take 4 n) ≡ min 4 (length n) = length-take 4 n in omega arith)

  two_tables : (k : ℕ) → k ≤ most_cells → drop k (take (2 * k) (drop 4 n)) ≡ distortions n k
  two_tables k h =
      let m = drop 4 n in
      let d : length m ≡ length n - 4 = length-drop 4 n in
      let twice : 2 * k ≡ k + k = omega arith in
      let l : length (take k m) ≡ min k (length m) = length-take k m in
      ap (λ (t : ℕ). drop k (take t m)) twice ∙ ap (λ (x : List ℕ). drop k x) (take-add k k m)
      ∙ drop_at (take k m) (take k (drop k m)) k (omega arith)
      ∙ ap (λ (x : List ℕ). take k x) (drop-drop k 4 n)

  pub ready_requested : {k : ℕ} → 4 ≤ s.taken → Planable n k → (not s.more && eqb s.taken (4 + 2 * k)) ≡ true →
      Requests n s (plan_requested n k)
  ready_requested {k} h f e text fed =
      let q = both s.more _ e in
      let t = eqb-true _ _ q.1 in
      let c = f.counted in
      let few = f.few in
      let m = after_four k few t in
      let cells_read = take (2 * k) (drop 4 n) in
      let planned = to_plan (scans n) (settings n) (law n) (budget n) in
      let long : length cells_read ≡ 2 * cells (scans n) (settings n) =
      omega (arith, length-take (2 * k) (drop 4 n), length-drop 4 n) in
      rest_decides h f text fed
      ∙ ap (λ (b : Bool). cond b bad_input (rest_requested n (as_words (drop 4 (taken_of n s)) ++ []))) q.0
      ∙ ap (λ (l : List ℕ). rest_requested n (as_words l ++ [])) m
      ∙ rest_cells n cells_read long
      ∙ ap (λ (j : ℕ). planned (take j cells_read) (drop j cells_read)) (sym c)
      ∙ ap (λ (l : List ℕ). planned l (drop k cells_read)) (take-take k (2 * k) (drop 4 n) (omega arith))
      ∙ ap (λ (l : List ℕ). planned (rates n k) l) (two_tables k few)
    where
      both : (a b : Bool) → (not a && b) ≡ true → (a ≡ false) × (b ≡ true)
      both true b e = never (cc)
      both false b e = (refl, e)

  pub unread_requested : {k : ℕ} → 4 ≤ s.taken → Planable n k → (not s.more && eqb s.taken (4 + 2 * k)) ≡ false → Requests n s bad_input
  unread_requested {k} h f e text fed = rest_decides h f text fed ∙ by_more s.more refl
    where
      by_more : (b : Bool) → s.more ≡ b → cond b bad_input (rest_requested n (as_words (drop 4 (taken_of n s)) ++ [])) ≡ bad_input
      by_more true m = refl
      by_more false m =
          let other = eqb-false s.taken (4 + 2 * k) (rw m at e) in
          let in_room = (all_taken text n s fed m).0 in
          rest_other n (drop 4 (taken_of n s))
          (λ l.
          let c = f.counted in
          let d : length (drop 4 (taken_of n s)) ≡ min s.taken (length n) - 4 = length-drop 4 (taken_of n s) ∙ ap (λ (x : ℕ). x - 4) (length-take
          s.taken n) in
          other (omega arith))
