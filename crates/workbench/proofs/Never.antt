-- bench never writes refusal 5 or 6: what it plans has tables and weights of the exact length and buffers that are long enough. Assumes nothing.
use Rattle.promise.specs.Answers.{MinmaxAnswer, AverageAnswer}
use Rattle.std.specs.Prelude.{Err}
use mathlib.Core.Path.{◌≡◌, refl, ap, ◌∙◌}
use mathlib.Core.Bool.{Bool, true, false, cond}
use mathlib.Core.Option.{Option, none, some}
use mathlib.Core.List.{List, [], ◌∷◌, ◌++◌}
use Prim.Native.Nat.{ℕ, zero, suc, ◌+◌, ◌-◌, ◌*◌, ◌≤◌}
use native.Mathlib.Nat.{mul-le-mul_left, mul-le-mul_right}
use native.Mathlib.Omega.{arith}
use lib.Dec.{eqb, ltb}
use lib.ListN.{length, get_or, take, drop, replicate, length-drop, length-replicate}
use lib.Seq.{length-take-le}
use borrow.Author.Tests.{le-ltb, lt-ltb}
use Rattle.laws.proofs.Tests.{cases}
use Rattle.tables.specs.declared.refusal.Refusal.{Refusal}
use Rattle.tables.specs.declared.refusal.Refusal.TheVariants as refusal
use Rattle.tables.specs.Refusals.{number_of}
use Rattle.tables.specs.Limits.{most_scans}
use Rattle.tables.specs.Law.{law_out}
use Rattle.tables.specs.Tables.{cells, scratch_need}
use Rattle.checks.specs.Planning.{asking, range_checks, scans_out, settings_out}
use Rattle.checks.proofs.GiveLaws.{given, gives_when, gives_first}
use Rattle.checks.proofs.PlanningLaws.{in_ranges}
use Rattle.promise.specs.Promise.{average_reply, minmax_reply}
use Rattle.promise.proofs.Sizes.{SizesFit, NotFiveOrSix, below_five, never_by_size}
use Rattle.reading.specs.Text.{words}
use Rattle.printing.specs.Lines as lines
use Rattle.workbench.specs.Request.{Request, bad_input, out_of_range, too_large, to_plan, add, first, most_cells, range_refusal, with_cells, with_rest, in_range, with_four, request}
use Rattle.workbench.specs.Written.{AveLine, MinmaxLine, WrittenFor, alone_bad, alone_large, both_refused, both_planned, Writes}

-- ---- what a text asks

-- a number is at most its square
in_square : (Q : ℕ) → Q ≤ Q * Q
in_square zero = omega arith
in_square (suc q) = omega (arith, mul-le-mul_left {m = 1} {n = suc q} (suc q) (omega arith))

-- the scratch of a call is never more than the cells of a table
need_in_cells : (N Q : ℕ) → scratch_need N Q ≤ cells N Q
unfolding scratch_need
need_in_cells N Q =
    let h : N * Q ≤ (N - 1 + 1) * Q = mul-le-mul_right {m = N} {n = N - 1 + 1} Q (omega arith) in
    let g : (N - 1) * Q ≤ (N - 1) * (Q * Q) = mul-le-mul_left {m = Q} {n = Q * Q} (N - 1) (in_square Q) in
    omega arith

-- a list of k numbers, where there is one
abbrev Long : ℕ → Option (List ℕ) → Type 0
Long k none = Unit {0}
Long k (some l) = length l ≡ k

-- one number more
add_long : (x k : ℕ) (o : Option (List ℕ)) → Long k o → Long (suc k) (add x o)
add_long x k none h = tt
add_long x k (some l) h = ap suc h

-- the first k numbers are k
first_long : (k : ℕ) (ws : List (Option ℕ)) → Long k (first k ws)
first_long zero ws = refl
first_long (suc k) [] = tt
first_long (suc k) (none ∷ ws) = tt
first_long (suc k) (some x ∷ ws) = add_long x k (first k ws) (first_long k ws)

-- a refusal of the checks 1 to 3
abbrev pub OneToThree : Refusal → Type 0
OneToThree r = (1 ≤ number_of r) × (number_of r ≤ 3)

-- what can be asked: a refusal of the checks 1 to 3, or a plan of sizes that fit the buffers of bench
abbrev Fits : Request → Type 0
Fits bad_input = Unit {0}
Fits (out_of_range r) = OneToThree r
Fits too_large = Unit {0}
Fits (to_plan N Q law B rates distortions) = SizesFit (asking N Q law rates distortions (replicate N 1) 1024 4096)

module _ (N Q law B : ℕ) where
  -- the cells of both tables, where they are not too many
  cells_fit : N ≤ most_scans → cells N Q ≤ most_cells → (o : Option (List ℕ)) → Long (2 * cells N Q) o → Fits (with_cells N Q law B o)
  cells_fit h g none long = tt
  cells_fit h g (some l) long = record {
    rates_long = length-take-le (cells N Q) l (omega arith);
    distortions_long = length-drop (cells N Q) l ∙ omega arith;
    weights_long = length-replicate N 1;
    plan_room = h;
    scratch_room = omega (arith, need_in_cells N Q);
  }

  -- the words after the first four
  rest_fits : N ≤ most_scans → cells N Q ≤ most_cells → (ws : List (Option ℕ)) → Fits (with_rest N Q law B ws)
  rest_fits h g ws = of (eqb (length ws) (2 * cells N Q))
    where
      of : (b : Bool) → Fits (cond b (with_cells N Q law B (first (2 * cells N Q) ws)) bad_input)
      of true = cells_fit h g (first (2 * cells N Q) ws) (first_long (2 * cells N Q) ws)
      of false = tt

  -- N, Q and law in range: by the size
  size_fits : N ≤ most_scans → (ws : List (Option ℕ)) → Fits (cond (ltb most_cells (cells N Q)) too_large (with_rest N Q law B ws))
  size_fits h ws =
      cases most_cells (cells N Q) (λ g. rw (lt-ltb most_cells (cells N Q) g) tt)
      (λ g. rw (le-ltb most_cells (cells N Q) g) (rest_fits h g ws))

  -- N, Q and law: by the checks 1 to 3
  range_fits : (ws : List (Option ℕ)) →
      Fits (in_range (range_refusal N Q law) (cond (ltb most_cells (cells N Q)) too_large (with_rest N Q law B ws)))
  range_fits ws = of (range_refusal N Q law) refl
    where
      of : (o : Option Refusal) → range_refusal N Q law ≡ o → Fits (in_range o (cond (ltb most_cells (cells N Q)) too_large (with_rest N Q law B ws)))
      of none e = size_fits (in_ranges most_scans N Q (law_out law) e).0.1 ws
      of (some r) e =
          given OneToThree {r = r} (gives_first OneToThree (range_checks most_scans N Q (law_out law)) (
            gives_when OneToThree (scans_out N) refusal.Scans (omega arith, omega arith),
            (
              gives_when OneToThree (settings_out Q) refusal.Settings (omega arith, omega arith),
              (gives_when OneToThree (law_out law) refusal.StepLaw (omega arith, omega arith), tt),
            ),
          )) e

-- so it is of every text
request_fits : (text : List ℕ) → Fits (request text)
unfolding request
request_fits text = of (first 4 (words text))
  where
    of : (o : Option (List ℕ)) → Fits (with_four o (drop 4 (words text)))
    of none = tt
    of (some h) = range_fits (get_or h 0 0) (get_or h 1 0) (get_or h 2 0) (get_or h 3 0) (drop 4 (words text))

-- What is refused before a cell is read is refused by 1, 2 or 3.
pub range_refused : (text : List ℕ) {r : Refusal} → request text ≡ out_of_range r → (1 ≤ number_of r) × (number_of r ≤ 3)
range_refused text {r} e = let h : Fits (out_of_range r) = (rw e at (request_fits text)) in h

-- What is planned has tables and weights of the exact length, and the buffers of bench are long enough for it.
pub plan_fits : (text : List ℕ) {N Q law B : ℕ} {rates distortions : List ℕ} → request text ≡ to_plan N Q law B rates distortions →
    SizesFit (asking N Q law rates distortions (replicate N 1) 1024 4096)
plan_fits text {N} {Q} {law} {B} {rates} {distortions} e =
    let h : Fits (to_plan N Q law B rates distortions) = (rw e at (request_fits text)) in h

-- ---- what is written

-- So neither call is refused by 5 or 6.
pub average_never : (text : List ℕ) {N Q law B : ℕ} {rates distortions line : List ℕ} → request text ≡ to_plan N Q law B rates distortions →
    (p : AveLine N Q law B rates distortions line) → NotFiveOrSix (average_reply p.given).number
average_never text e p = never_by_size tt (plan_fits text e) p.kept

pub minmax_never : (text : List ℕ) {N Q law B : ℕ} {rates distortions line : List ℕ} → request text ≡ to_plan N Q law B rates distortions →
    (p : MinmaxLine N Q law B rates distortions line) → NotFiveOrSix (minmax_reply p.given).number
minmax_never text e p = never_by_size tt (plan_fits text e) p.kept

-- No refusal in what is written is 5 or 6: "bad input" or "too large" stands alone, or there are the lines of two answers, and the number of
-- neither is 5 or 6 (that of a plan is 0).
pub data NoFiveOrSix : List ℕ → Type 0 where
  bad_input_alone : NoFiveOrSix lines.bad_input
  too_large_alone : NoFiveOrSix lines.too_large
  two_lines : (a : AverageAnswer) (m : MinmaxAnswer) (settings settings' : List ℕ) → NotFiveOrSix (average_reply a).number →
      NotFiveOrSix (minmax_reply m).number → NoFiveOrSix (lines.ave_line a settings ++ lines.minmax_line m settings')

-- what is written for what can be asked
written_neither : {a : Request} {out : List ℕ} → Fits a → WrittenFor a out → NoFiveOrSix out
written_neither h alone_bad = bad_input_alone
written_neither h alone_large = too_large_alone
written_neither h (both_refused r) =
    let n : NotFiveOrSix (number_of r) = below_five (omega arith) in
    two_lines (Err r) (Err r) [] [] n n
written_neither h (both_planned N Q law B rates distortions first second a m) =
    let n : NotFiveOrSix (average_reply a.given).number = never_by_size tt h a.kept in
    let n' : NotFiveOrSix (minmax_reply m.given).number = never_by_size tt h m.kept in
    rw (a.written, m.written) (two_lines a.given m.given (take N a.plan) (take N m.plan) n n')

-- bench never writes refusal 5 or 6, whatever the text.
pub never_five_or_six : (text out : List ℕ) → Writes text out → NoFiveOrSix out
never_five_or_six text out w = written_neither (request_fits text) w
