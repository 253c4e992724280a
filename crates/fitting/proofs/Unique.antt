-- One answer for equal inputs, and each exactly when it is so. Assumes nothing.
use mathlib.Core.Path.{◌≡◌, refl, sym, ap, ◌∙◌}
use mathlib.Core.Bool.{true, false}
use mathlib.Core.Option.{none, some}
use mathlib.Core.List.{List}
use Prim.Native.Nat.{ℕ, suc, ◌≤◌, ◌<◌}
use native.Mathlib.Decide.{dec_lt, ℕ_discrete}
use native.Mathlib.Omega.{arith}
use lib.ListN.{get_or}
use Rattle.std.specs.Prelude.{Ok, Err}
use Rattle.laws.proofs.Tests.{never}
use Rattle.tables.specs.declared.refusal.Refusal.{Refusal}
use Rattle.tables.specs.declared.refusal.Refusal.TheVariants as refusal
use Rattle.tables.specs.Refusals.{Reply, refused, number_of}
use Rattle.tables.specs.Limits.{most_scans}
use Rattle.tables.specs.Legal.{AllLegal, no_weights}
use Rattle.tables.proofs.CellLaws.{scan_inside}
use Rattle.tables.proofs.RefusalLaws.{refused_unique, answered_or_refused}
use Rattle.tables.proofs.Beginnings.{way_fewer}
use Rattle.legal.specs.Judged.{run_illegal}
use Rattle.legal.proofs.LegalLaws.{run_unique}
use Rattle.checks.specs.Checks.{zero_or_over}
use Rattle.checks.specs.Planning.{settings_out, lengths_out, plain_checks}
use Rattle.checks.proofs.GiveLaws.{given, gives_when, gives_first}
use Rattle.fits.specs.Fits.{FitsAnswer, Question, series_asked, Beginning, LegalScan, IsRead, fits_refusal, Seven, NoneFits, OneFits, says_yes, says_no, fits_reply, FitsPromise, early, seven, none_fits, one_fits}
use Rattle.fits.proofs.ReadLaws.{lengths_right}
use Rattle.fitting.specs.Fitting.{FitsExactly}

-- a scan of tables that are all legal
pub legal_scans : (a : Question) → fits_refusal a ≡ none → AllLegal no_weights a.rates a.distortions → (j : ℕ) → j < a.N → LegalScan a j
legal_scans a e l j h c g i = l c (omega (arith, i, (scan_inside a.N a.Q j h).1, (lengths_right a e).0))

module _ {a : Question} where
  -- scans before one that is read are read
  pub read_before : {j k : ℕ} → j ≤ k → IsRead a k → IsRead a j
  read_before {j} {k} h r =
      let w = way_fewer (series_asked a) k h r.within in
      record { inside = omega (arith, r.inside); legal = λ i g. r.legal i (omega arith); beginning = w.0; within = w.1 }

  -- no two cases together
  seven_once : {c c' : ℕ} → Seven a c → Seven a c' → c ≡ c'
  seven_once {c} {c'} s s' = of (dec_lt s.scan s'.scan) (dec_lt s'.scan s.scan)
    where
      of : Dec (s.scan < s'.scan) → Dec (s'.scan < s.scan) → c ≡ c'
      of (yes h) d = absurd (s.lowest.illegal (s'.read.legal s.scan h c s.lowest.behind s.lowest.inside))
      of (no h) (yes g) = absurd (s'.lowest.illegal (s.read.legal s'.scan g c' s'.lowest.behind s'.lowest.inside))
      of (no h) (no g) =
          let e : s.scan ≡ s'.scan = omega arith in
          let z : some (refusal.Cell c) ≡ some (refusal.Cell c') = run_unique no_weights a.rates a.distortions (run_illegal s.lowest) (run_illegal (rw (← e) at s'.lowest)) in
          cc

  seven_or_no : {c : ℕ} → Seven a c → NoneFits a → ⊥
  seven_or_no {c} s n = of (dec_lt n.scan s.scan) (ℕ_discrete s.scan n.scan)
    where
      of : Dec (n.scan < s.scan) → Dec (s.scan ≡ n.scan) → ⊥
      of (yes h) d = let w = way_fewer (series_asked a) s.scan {m = suc n.scan} h s.read.within in n.over w.0 w.1
      of (no h) (yes e) = s.lowest.illegal ((rw (← e) at n.legal) c s.lowest.behind s.lowest.inside)
      of (no h) (no e) = s.lowest.illegal (n.read.legal s.scan (omega arith) c s.lowest.behind s.lowest.inside)

  seven_or_yes : {c : ℕ} → Seven a c → OneFits a → ⊥
  seven_or_yes {c} s o = s.lowest.illegal (legal_scans a o.passed o.legal s.scan s.read.inside c s.lowest.behind s.lowest.inside)

  -- a sequence within the budget has beginnings within it
  pub begins : {k : ℕ} (o : OneFits a) → k ≤ a.N → (s : List ℕ) × Beginning a k s
  begins o h = way_fewer (series_asked a) a.N {s = o.plan} h (record { long = o.within.0.0; kept = o.within.0.1; fits = o.within.1 })

  pub no_or_yes : NoneFits a → OneFits a → ⊥
  no_or_yes n o = let w = begins {k = suc n.scan} o n.read.inside in n.over w.0 w.1

  -- one answer
  pub fits_unique : {z z' : Reply} → FitsPromise a z → FitsPromise a z' → z ≡ z'
  fits_unique (early {r = r} e) (early {r = r'} e') = let q : some r ≡ some r' = sym e ∙ e' in let w : r ≡ r' = cc in ap refused w
  fits_unique (early e) (seven s) = let p = s.passed in never cc
  fits_unique (early e) (none_fits s) = let p = s.passed in never cc
  fits_unique (early e) (one_fits s) = let p = s.passed in never cc
  fits_unique (seven s) (early e) = let p = s.passed in never cc
  fits_unique (seven s) (seven s') = ap (λ (c : ℕ). refused (refusal.Cell c)) (seven_once s s')
  fits_unique (seven s) (none_fits n) = absurd (seven_or_no s n)
  fits_unique (seven s) (one_fits o) = absurd (seven_or_yes s o)
  fits_unique (none_fits s) (early e) = let p = s.passed in never cc
  fits_unique (none_fits n) (seven s) = absurd (seven_or_no s n)
  fits_unique (none_fits n) (none_fits n') = refl
  fits_unique (none_fits n) (one_fits o) = absurd (no_or_yes n o)
  fits_unique (one_fits s) (early e) = let p = s.passed in never cc
  fits_unique (one_fits o) (seven s) = absurd (seven_or_yes s o)
  fits_unique (one_fits o) (none_fits n) = absurd (no_or_yes n o)
  fits_unique (one_fits o) (one_fits o') = refl

pub yes_not_no : says_yes ≡ says_no → ⊥
yes_not_no e = omega (arith, ap (λ (x : Reply). get_or x.values 0 0) e)

-- answers that reply alike are the same
pub fits_answer_unique : (r r' : FitsAnswer) → fits_reply r ≡ fits_reply r' → r ≡ r'
fits_answer_unique (Ok true) (Ok true) e = refl
fits_answer_unique (Ok true) (Ok false) e = absurd (yes_not_no e)
fits_answer_unique (Ok true) (Err r) e = absurd (answered_or_refused r e)
fits_answer_unique (Ok false) (Ok true) e = absurd (yes_not_no (sym e))
fits_answer_unique (Ok false) (Ok false) e = refl
fits_answer_unique (Ok false) (Err r) e = absurd (answered_or_refused r e)
fits_answer_unique (Err r) (Ok true) e = absurd (answered_or_refused r (sym e))
fits_answer_unique (Err r) (Ok false) e = absurd (answered_or_refused r (sym e))
fits_answer_unique (Err r) (Err r') e = ap Err (refused_unique e)

pub fits_settled : {a : Question} (r r' : FitsAnswer) → FitsPromise a (fits_reply r) → FitsPromise a (fits_reply r') → r ≡ r'
fits_settled r r' h h' = fits_answer_unique r r' (fits_unique h h')

-- the checks before 7 do not give 7
NotSeven : Refusal → Type 0
NotSeven r = number_of r ≡ 7 → ⊥

early_not_seven : (a : Question) {r : Refusal} → fits_refusal a ≡ some r → number_of r ≡ 7 → ⊥
unfolding fits_refusal NotSeven
early_not_seven a {r} e = given NotSeven (gives_first NotSeven (plain_checks a.N a.Q a.lawless a.rates a.distortions) (
  gives_when NotSeven (zero_or_over most_scans a.N) refusal.Scans (λ z. omega arith),
  (
    gives_when NotSeven (settings_out a.Q) refusal.Settings (λ z. omega arith),
    (
      gives_when NotSeven a.lawless refusal.StepLaw (λ z. omega arith),
      (tt, (gives_when NotSeven (lengths_out a.N a.Q a.rates a.distortions) refusal.Lengths (λ z. omega arith), tt)),
    ),
  ),
)) e

-- each case exactly when it is so
pub fits_exactly : {a : Question} {z : Reply} → FitsPromise a z → FitsExactly a z
fits_exactly {a} {z} h = record {
  early = λ r. (λ e. (fits_unique h (early {r = r} e), early_not_seven a e), λ x. was_early h r x.0 x.1);
  seven = λ c. (λ e. was_seven h c e, λ s. fits_unique h (seven s));
  no = (λ e. was_no h e, λ n. fits_unique h (none_fits n));
  yes = (λ e. was_yes h e, λ o. fits_unique h (one_fits o));
}
  where
    was_early : {z : Reply} → FitsPromise a z → (r : Refusal) → z ≡ refused r → (number_of r ≡ 7 → ⊥) → fits_refusal a ≡ some r
    was_early (early {r = r'} e) r f n = let q : r' ≡ r = refused_unique f in rw (← q) e
    was_early (seven {c = c} s) r f n = let q : refusal.Cell c ≡ r = refused_unique f in absurd (n (sym (ap number_of q)))
    was_early (none_fits s) r f n = absurd (answered_or_refused r f)
    was_early (one_fits s) r f n = absurd (answered_or_refused r f)

    was_seven : {z : Reply} → FitsPromise a z → (c : ℕ) → z ≡ refused (refusal.Cell c) → Seven a c
    was_seven (early {r = r} e) c f = let q : r ≡ refusal.Cell c = refused_unique f in absurd (early_not_seven a e (ap number_of q))
    was_seven (seven {c = c'} s) c f = let q : refusal.Cell c' ≡ refusal.Cell c = refused_unique f in let w : c' ≡ c = cc in rw (← w) s
    was_seven (none_fits s) c f = absurd (answered_or_refused (refusal.Cell c) f)
    was_seven (one_fits s) c f = absurd (answered_or_refused (refusal.Cell c) f)

    was_no : {z : Reply} → FitsPromise a z → z ≡ says_no → NoneFits a
    was_no (early {r = r} e) f = absurd (answered_or_refused r (sym f))
    was_no (seven {c = c} s) f = absurd (answered_or_refused (refusal.Cell c) (sym f))
    was_no (none_fits s) f = s
    was_no (one_fits s) f = absurd (yes_not_no f)

    was_yes : {z : Reply} → FitsPromise a z → z ≡ says_yes → OneFits a
    was_yes (early {r = r} e) f = absurd (answered_or_refused r (sym f))
    was_yes (seven {c = c} s) f = absurd (answered_or_refused (refusal.Cell c) (sym f))
    was_yes (none_fits s) f = absurd (yes_not_no (sym f))
    was_yes (one_fits s) f = s
