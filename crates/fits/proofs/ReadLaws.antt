-- What is known before a scan is read, and how the call ends there or goes on. Assumes nothing.
use mathlib.Core.Path.{◌≡◌, refl, ◌∙◌, subst}
use mathlib.Core.Bool.{Bool}
use mathlib.Core.Option.{Option, none, some}
use mathlib.Core.List.{List, [], ◌∷◌}
use Prim.Native.Nat.{ℕ, zero, suc, ◌+◌, ◌-◌, ◌*◌, ◌≤◌, ◌<◌, min}
use native.Mathlib.Nat.{mul-le-mul_right}
use native.Mathlib.Omega.{arith}
use lib.ListN.{length, get_or, replicate, get_or-replicate}
use Rattle.laws.proofs.Tests.{never, cases}
use Rattle.tables.specs.declared.refusal.Refusal.{Refusal}
use Rattle.tables.specs.declared.refusal.Refusal.TheVariants as refusal
use Rattle.tables.specs.Refusals.{refused}
use Rattle.tables.specs.Limits.{most_scans, most_settings, most_cell, most_total, over_total}
use Rattle.tables.specs.Law.{law_out}
use Rattle.tables.specs.Series.{total, last_of}
use Rattle.tables.specs.Tables.{cells, cell, scan_start}
use Rattle.tables.specs.Legal.{no_weights}
use Rattle.tables.proofs.CellLaws.{cell_in_scan, scan_inside, scans_end, cells_small}
use Rattle.tables.proofs.Bounds.{total_before, unmarked}
use Rattle.tables.proofs.Beginnings.{last_below}
use Rattle.legal.specs.Judged.{LegalRun, RunJudged, run_legal, run_illegal}
use Rattle.legal.specs.Parts.{RunWithin}
use Rattle.legal.proofs.LegalLaws.{legal_on, all_of_run}
use Rattle.checks.specs.Checks.{first_refusal}
use Rattle.checks.specs.Planning.{lengths_out, plain_checks}
use Rattle.checks.proofs.PlanningLaws.{FrontedBy, fronted_by, lengths_exact}
use Rattle.fits.specs.Reach.{Reached, LastWithin}
use Rattle.fits.specs.Fits.{Question, question, table_asked, series_asked, Beginning, LegalScan, IsRead, fits_refusal, FitsPromise, seven, none_fits, one_fits, says_no, says_yes}
use Rattle.fits.proofs.ReachLaws.{rows_of, rows_fit, rows_end, reach_start}

-- the checks of numbers and lengths, whatever they are told of the law
pub refusal_is : (N Q law B : ℕ) (rates distortions : List ℕ) {lawless : Bool} {z : Option Refusal} → z ≡ first_refusal (plain_checks N Q lawless rates distortions) →
    lawless ≡ law_out law → z ≡ fits_refusal (question N Q law B rates distortions)
unfolding fits_refusal
refusal_is N Q law B rates distortions e f = rw f at e

-- what a question that passed the checks before 7 knows
pub ready : (a : Question) → fits_refusal a ≡ none → FrontedBy most_scans a.N a.Q a.lawless none (lengths_out a.N a.Q a.rates a.distortions)
unfolding fits_refusal
ready a e = fronted_by most_scans a.N a.Q a.lawless none (lengths_out a.N a.Q a.rates a.distortions) e

pub lengths_right : (a : Question) → fits_refusal a ≡ none → (length a.rates ≡ cells a.N a.Q) × (length a.distortions ≡ cells a.N a.Q)
lengths_right a e = lengths_exact a.N a.Q a.rates a.distortions (ready a e).lengths

-- scans that are legal one by one are legal together
pub scans_legal : (a : Question) (k : ℕ) → ((j : ℕ) → j < k → LegalScan a j) → LegalRun no_weights a.rates a.distortions 0 (scan_start a.Q k)
scans_legal a zero l = λ c h g. absurd (omega arith)
scans_legal a (suc k) l = legal_on no_weights a.rates a.distortions (scans_legal a k (λ j h. l j (omega arith))) (l k (omega arith))

-- the most that a total may be
abbrev pub limit_of : Question → ℕ
limit_of a = min a.budget most_total

-- the scans before one that has been read, and the one that is read next: its cells stand from `from` on in so many rows, of which those past
-- the first few, `few` of them, are led to by no beginning within the limit
pub record Before (a : Question) (scan few rows from : ℕ) (least : List ℕ) : Type 0 where
  pub inside : scan ≤ a.N
  pub rows_are : rows ≡ rows_of a.Q scan
  pub few_are : few ≤ rows
  pub past : (p : ℕ) → few ≤ p → p < a.Q → limit_of a < get_or least p 0
  pub from_is : from ≡ scan_start a.Q scan
  pub legal : (j : ℕ) → j < scan → LegalScan a j
  pub beginning : List ℕ
  pub within : Beginning a scan beginning
  pub reached : Reached (series_asked a) scan (limit_of a) least

-- the totals before scan 0
pub first_zero : (Q : ℕ) → Q ≤ most_settings → (q : ℕ) → 1 ≤ q → q < Q → get_or (0 ∷ replicate 15 over_total) q 0 ≡ over_total
first_zero Q n zero h g = absurd (omega arith)
first_zero Q n (suc q) h g = get_or-replicate 15 q over_total 0 (omega arith)

pub before_start : (a : Question) (l : List ℕ) → get_or l 0 0 ≡ 0 → ((q : ℕ) → 1 ≤ q → q < a.Q → get_or l q 0 ≡ over_total) → Before a 0 1 1 0 l
before_start a l z e = record {
  inside = omega arith;
  rows_are = refl;
  few_are = omega arith;
  past = λ p h g. omega (arith, e p h g);
  from_is = refl;
  legal = λ j h. absurd (omega arith);
  beginning = [];
  within = record { long = refl; kept = tt; fits = omega arith };
  reached = reach_start (series_asked a) (limit_of a) l z e;
}

module _ {a : Question} (passed : fits_refusal a ≡ none) {scan few rows from : ℕ} {l : List ℕ} (b : Before a scan few rows from l) (more : scan < a.N) where
  -- where the cells of the scan end, and that both tables have them
  pub scan_to : from + rows * a.Q ≡ scan_start a.Q (suc scan)
  scan_to = rw (b.from_is, b.rows_are) (rows_end a.Q scan)

  pub run_within : RunWithin (length a.rates) (length a.distortions) from (from + rows * a.Q) 1
  run_within =
      let w = scan_inside a.N a.Q scan more in
      let n = lengths_right a passed in
      let r = ready a passed in
      record {
        forward = omega arith;
        in_rates = omega (arith, scan_to, w.1, n.0);
        in_distortions = omega (arith, scan_to, w.1, n.1);
        short = omega (arith, scan_to, w.1, cells_small {N = a.N} {Q = a.Q} r.scans r.settings);
        light = omega arith;
      }

  -- the rows that are counted
  pub few_within : (few ≤ a.Q) × (from + few * a.Q ≤ length a.rates)
  few_within = (
    omega (arith, b.few_are, b.rows_are, rows_fit a.Q scan (ready a passed).some_settings),
    omega (arith, mul-le-mul_right {m = few} {n = rows} a.Q b.few_are, run_within.in_rates),
  )

  read : IsRead a scan
  read = record { inside = more; legal = b.legal; beginning = b.beginning; within = b.within }

  abbrev Judged-scan : Option Refusal → Type 0
  Judged-scan o = RunJudged no_weights a.rates a.distortions from (from + rows * a.Q) o

  -- an illegal cell ends the call
  pub ends_seven : {o : Option Refusal} {r : Refusal} → Judged-scan o → o ≡ some r → FitsPromise a (refused r)
  ends_seven {o} {r} j e = of (rw (b.from_is, scan_to_from) at j) e
    where
      scan_to_from : scan_start a.Q scan + rows * a.Q ≡ scan_start a.Q (suc scan)
      scan_to_from = omega (arith, scan_to, b.from_is)

      of : {o : Option Refusal} → RunJudged no_weights a.rates a.distortions (scan_start a.Q scan) (scan_start a.Q (suc scan)) o → o ≡ some r → FitsPromise a (refused r)
      of (run_legal m) g = never cc
      of (run_illegal {k} p) g =
          let e : refusal.Cell k ≡ r = cc in
          subst (λ (w : Refusal). FitsPromise a (refused w)) e (seven {c = k} (record { passed = passed; scan = scan; read = read; lowest = p }))

  -- a scan without one is counted
  pub now_legal : {o : Option Refusal} → Judged-scan o → o ≡ none → LegalScan a scan
  now_legal {o} j e = of j e
    where
      of : {o : Option Refusal} → Judged-scan o → o ≡ none → LegalScan a scan
      of (run_legal m) g = rw (scan_to, b.from_is) at m
      of (run_illegal p) g = never cc

  module _ (legal : LegalScan a scan) {l' : List ℕ} (reached : Reached (series_asked a) (suc scan) (limit_of a) l') where
    legal_so_far : (j : ℕ) → j < suc scan → LegalScan a j
    legal_so_far j h = cases j scan (λ u. b.legal j u) (λ u. let e : j ≡ scan = omega arith in rw e legal)

    -- no beginning comes to more than the most that rates come to
    small : (s : List ℕ) → Beginning a (suc scan) s → total (series_asked a).rate 0 0 s ≤ most_total
    small s w =
        let t = table_asked a in
        omega (
          arith,
          (ready a passed).scans,
          w.long,
          total_before (series_asked a) (series_asked a).rate most_cell (suc scan)
              (λ i p q h g k m. let c = cell_in_scan a.Q i p q g k in unmarked m.0 (legal_so_far i h (cell a.Q i p q) c.0 c.1).0)
              0 0 s (omega (arith, w.long)) (ready a passed).some_settings w.kept,
        )

    -- no total is within the limit: the call ends
    pub ends_no : {count : ℕ} → LastWithin a.Q (limit_of a) l' count → count ≡ 0 → FitsPromise a says_no
    ends_no n e = none_fits (record { passed = passed; scan = scan; read = read; legal = legal; over = over })
      where
        over : (s : List ℕ) → Beginning a (suc scan) s → ⊥
        over s w =
            let h = last_below (series_asked a) 0 0 s (ready a passed).some_settings w.kept in
            omega (arith, n.past (last_of 0 s) (omega arith) h, reached.lowest (last_of 0 s) h s (record { long = w.long; kept = w.kept; last = refl }) (omega (arith, w.fits, small s w)), w.fits, small s w)

    -- one is, and the next scan is read
    pub goes_on : {count : ℕ} → LastWithin a.Q (limit_of a) l' count → (count ≡ 0 → ⊥) → Before a (scan + 1) count a.Q (from + rows * a.Q) l'
    goes_on {count} x n =
        let some : 1 ≤ count = omega arith in
        let r = reached.found (count - 1) (omega (arith, x.inside)) (omega (arith, x.last some)) in
        let e : scan + 1 ≡ suc scan = omega arith in
        rw e (record {
          inside = more;
          rows_are = refl;
          few_are = x.inside;
          past = x.past;
          from_is = scan_to;
          legal = legal_so_far;
          beginning = r.beginning;
          within = record { long = r.ends.long; kept = r.ends.kept; fits = omega (arith, r.is, x.last some) };
          reached = reached;
        })

-- every scan has been read
pub ends_yes : {a : Question} → fits_refusal a ≡ none → {scan few rows from : ℕ} {l : List ℕ} → Before a scan few rows from l → scan ≡ a.N → FitsPromise a says_yes
ends_yes {a} passed {scan} b e = one_fits (record {
  passed = passed;
  legal = all_of_run no_weights a.rates a.distortions (omega (arith, (lengths_right a passed).0, scans_end a.N a.Q (ready a passed).some_scans))
      (scans_legal a a.N (λ j h. b.legal j (omega arith)));
  plan = b.beginning;
  within = ((b.within.long ∙ e, b.within.kept), b.within.fits);
})
