-- What the lines leave in the buffer. Assumes nothing.
use mathlib.Core.Path.{◌≡◌, refl, ap, ◌∙◌}
use mathlib.Core.List.{List, [], ◌∷◌, ◌++◌}
use Prim.Native.Nat.{ℕ, zero, suc, ◌+◌, ◌-◌, ◌*◌, ◌≤◌, min}
use native.Mathlib.Omega.{arith}
use lib.ListN.{length, take, drop, replicate, length-take}
use lib.Seq.{sets, sets-eq, length-sets, take_at}
use Rattle.tables.specs.declared.refusal.Refusal.{Refusal}
use Rattle.std.specs.Borrow.{Bor, MutBor}
use Rattle.checks.specs.Given.{asked_of}
use Rattle.checks.specs.declared.lent.Tables.{Tables}
use Rattle.printing.specs.Lines.{line, ave, minmax}
use Rattle.laws.specs.Put.{Put}
use Rattle.laws.proofs.Tests.{never}
use Rattle.printing.specs.declared.line.Said.{Said}
use Rattle.printing.specs.declared.put.Text.{Text}
use Rattle.printing.specs.declared.line.Said.TheVariants.{Refused}
use Rattle.laws.proofs.PutLaws.{next}
use Rattle.reading.specs.Fed.{Feeds}
use Rattle.reading.specs.declared.State.{State}
use Rattle.workbench.specs.Request.{Request, out_of_range, to_plan}
use Rattle.workbench.specs.Written.{PromiseOf, PlannedLine, AveLine, MinmaxLine, WrittenFor, both_refused, both_planned}
use Rattle.workbench.specs.Done.{Answers}
use Rattle.workbench.specs.Parts.{CallLine, RightLine, Holds, WrittenIn, Requests, plan_requested, scans, settings, law, budget, rates, distortions}

-- the first settings of a plan
pub prefix_long : (N : ℕ) (plan : List ℕ) → N ≤ length plan → N ≡ length (take N plan)
prefix_long N plan h = let l : length (take N plan) ≡ min N (length plan) = length-take N plan in omega arith

-- a line of at most 1,024 settings
pub few_bytes : (N : ℕ) (plan : List ℕ) → N ≤ 1024 → 256 + 4 * length (take N plan) ≤ 4352
few_bytes N plan h = let l : length (take N plan) ≡ min N (length plan) = length-take N plan in omega arith

-- of many ones the first N
front_ones : (N M : ℕ) → N ≤ M → take {A = ℕ} N (replicate M 1) ≡ replicate N 1
front_ones zero M h = refl
front_ones (suc n) zero h = never (omega arith)
front_ones (suc n) (suc m) h = ap (λ (l : List ℕ). 1 ∷ l) (front_ones n m (omega arith))

-- the line of what a call said is that of its answer, where the call keeps this promise and this is said of it
pub planned_line : {Answer : Type 0} (promise : PromiseOf Answer) (said_of : Answer → Said)
    {call : Bor Tables → ℕ → (plan scratch : MutBor (List ℕ)) → Answer → (plan' scratch' : MutBor (List ℕ)) → Type 0} {says : Answer → Said → Type 0}
    {t : Tables} {B : ℕ} {word before after : List ℕ} {at r : ℕ} →
    ((lent : Bor Tables) (p s : MutBor (List ℕ)) (x : Answer) (p' s' : MutBor (List ℕ)) → call lent B p s x p' s' →
    promise (asked_of lent.now (length p.now) (length s.now)) B p.now s.now x p'.now s'.now) →
    ((x : Answer) (y : Said) → says x y → y ≡ said_of x) → t.scans ≤ 1024 → t.weights.now ≡ take t.scans (replicate 1024 1) →
    RightLine (CallLine call says t B word) before at after r →
    RightLine (PlannedLine promise (λ x s. line word (said_of x) s) t.scans t.settings t.law B t.rates.now t.distortions.now) before at after r
planned_line promise said_of {t = t} keeps says small ones l =
    let k = l.right in record {
      line = l.line;
      right = record {
        given = k.given;
        plan = k.plan'.now;
        scratch = k.scratch'.now;
        kept = rw (k.tables_lent, k.plan_lent, k.scratch_lent, ones, front_ones t.scans 1024 small) at (keeps k.lent k.plan k.scratch k.given k.plan' k.scratch' k.kept);
        written = k.written ∙ ap (λ (y : Said). line _ y (take t.scans k.plan'.now)) (says k.given k.said k.says_so);
      };
      put = l.put;
      short = l.short;
    }

-- the two parts of the numbers that are lent
rates_part : (n : List ℕ) (k : ℕ) → take (4 + k - 4) (drop 4 n) ≡ rates n k
rates_part n k = ap (λ (j : ℕ). take j (drop 4 n)) (let e : 4 + k - 4 ≡ k = omega arith in e)

distortions_part : (n : List ℕ) (k : ℕ) → take (4 + k + k - (4 + k)) (drop (4 + k) n) ≡ distortions n k
distortions_part n k = ap (λ (j : ℕ). take j (drop (4 + k) n)) (let e : 4 + k + k - (4 + k) ≡ k = omega arith in e)

-- what is planned is what was asked
pub read_requested : (n : List ℕ) (k : ℕ) {N Q l B : ℕ} → N ≡ scans n → Q ≡ settings n → l ≡ law n → B ≡ budget n →
    plan_requested n k ≡ to_plan N Q l B (take (4 + k - 4) (drop 4 n)) (take (4 + k + k - (4 + k)) (drop (4 + k) n))
read_requested n k {N} {Q} {l} {B} a b c d =
    let rs = rates_part n k in
    let ds = distortions_part n k in
    cc

-- a buffer keeps its length
pub as_long : {d o t : List ℕ} {at r : ℕ} → Put d at t o r → length o ≡ length d
as_long {d} {o} {t} {at} p = ap length p.so ∙ length-sets d at t

-- one line, from the start
pub one_line : (d l : List ℕ) → length l ≤ length d → take (length l) (sets d 0 l) ≡ l
one_line d l h = ap (λ (x : List ℕ). take (length l) x) (sets-eq l d 0 (omega arith)) ∙ take_at l (drop (0 + length l) d) (length l) refl

-- a line alone, put at the front
pub alone_put : {d e l : List ℕ} {at r : ℕ} → at ≡ 0 → Put d at l e r → length l ≤ length d → (r ≤ length e) × (take r e ≡ l)
alone_put {d} {e} {l} {at} {r} o p h =
    let re : r ≡ length l = let z = p.end in omega arith in
    let so : e ≡ sets d 0 l = rw o at p.so in
    (omega (arith, as_long p), ap (λ (k : ℕ). take k e) re ∙ ap (λ (x : List ℕ). take (length l) x) so ∙ one_line d l h)

-- both lines, the second right after the first
both_put : {d e f a b : List ℕ} {at m r : ℕ} → at ≡ 0 → Put d at a e m → Put e m b f r → r ≤ length d → (r ≤ length f) × (take r f ≡ a ++ b)
both_put {d} {e} {f} {a} {b} o u w h = let z = next u w in alone_put o z (omega (arith, z.end))

pub refused_put : {x : Refusal} {d e f : List ℕ} {at m r : ℕ} → at ≡ 0 → Put d at (line ave (Refused x) []) e m → Put e m (line minmax (Refused x) []) f r →
    r ≤ length d → Holds (out_of_range x) r f
refused_put {x} o u w h = let z = both_put o u w h in (z.0, rw z.1 (both_refused x))

pub planned_put : {N Q l B : ℕ} {rs ds d e f : List ℕ} {at m r : ℕ} {a : Request} → at ≡ 0 → a ≡ to_plan N Q l B rs ds →
    RightLine (AveLine N Q l B rs ds) d at e m → RightLine (MinmaxLine N Q l B rs ds) e m f r → 8704 ≤ length d → Holds a r f
planned_put {N} {Q} {l} {B} {rs} {ds} o q u w h =
    let z = both_put o u.put w.put (omega (arith, u.short, w.short)) in
    (z.0, rw (z.1, q) (both_planned N Q l B rs ds u.line w.line u.right w.right))

-- a line that stands alone is what is asked
pub alone_holds : {d e l : List ℕ} {at r : ℕ} {a : Request} → at ≡ 0 → Put d at l e r → length l ≤ length d → WrittenFor a l → Holds a r e
alone_holds o p h w = let z = alone_put o p h in (z.0, rw z.1 w)

-- what is written for what the ended text asks is written for the text
pub answers : {n m ys : List ℕ} {s e : State} {t t' : Text} → Feeds n (32 ∷ []) s m e → (a : Request) × Requests m e a × WrittenIn a t t' →
    ys ≡ t'.out.now → (t'.at ≤ length ys) × Answers n s (take t'.at ys)
answers f (a, q, w) e = rw e (w.holds.0, λ text fed. rw (q text (f text fed)) w.holds.1)
