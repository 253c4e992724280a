-- The parts of an import together. Assumes nothing.
use mathlib.Core.Path.{◌≡◌, refl, sym, ap, ◌∙◌}
use mathlib.Core.Bool.{Bool, ◌||◌}
use mathlib.Core.Option.{Option, none, some}
use mathlib.Core.List.{List, [], ◌∷◌}
use Prim.Native.Nat.{ℕ, ◌≤◌, ◌<◌}
use native.Mathlib.Omega.{arith}
use lib.Dec.{ltb}
use lib.ListN.{length, get_or, drop, replicate, length-append, length-replicate, length-drop, get_or-replicate, get_or-append}
use lib.Seq.{drop_at}
use borrow.Author.Tests.{ltb-false, le-ltb}
use Rattle.laws.proofs.Tests.{neither, never}
use Rattle.tables.specs.declared.refusal.Refusal.{Refusal}
use Rattle.tables.specs.declared.refusal.Refusal.TheVariants as refusal
use Rattle.tables.specs.Limits.{most_scans, most_settings}
use Rattle.tables.specs.Tables.{cells}
use Rattle.checks.specs.Checks.{when, or_else, first_refusal}
use Rattle.checks.specs.Planning.{scans_out, settings_out}
use Rattle.checks.proofs.CheckLaws.{none_when, none_else, all_pass, else_nothing}
use Rattle.checks.proofs.RangeLaws.{in_range, passes_range}
use Rattle.lines.specs.Text.{lines}
use Rattle.imports.specs.Import.{first_fault, import_short, early_import, import_refusal, filled, rates_after, distortions_after, scratch_after, import_of}

-- what is filled is as long as it was
pub length_filled : (k x : ℕ) (t : List ℕ) → k ≤ length t → length (filled k x t) ≡ length t
length_filled k x t h = omega (arith, length-append (replicate k x) (drop k t), length-replicate k x, length-drop k t)

-- the first k cells of what is filled
pub fill_at : (k x : ℕ) (t : List ℕ) (i : ℕ) → i < k → get_or (filled k x t) i 0 ≡ x
fill_at k x t i h =
    let n : length (replicate {A = ℕ} k x) ≡ k = length-replicate k x in
    get_or-append (replicate k x) (drop k t) 0 i (omega (arith, n)) ∙ get_or-replicate k i x 0 h

-- it has room for them
pub fill_room : (k x : ℕ) (t : List ℕ) → k ≤ length (filled k x t)
fill_room k x t = omega (arith, length-append (replicate k x) (drop k t), length-replicate k x)

-- and behind them it is as it was
pub fill_behind : (k x : ℕ) (t : List ℕ) → drop k (filled k x t) ≡ drop k t
fill_behind k x t = drop_at (replicate k x) (drop k t) k (length-replicate k x)

-- what the checks before the lines have passed
pub record ImportAdmitted (N Q rates distortions scratch : ℕ) : Type 0 where
  pub some_scans : 1 ≤ N
  pub scans : N ≤ most_scans
  pub some_settings : 1 ≤ Q
  pub settings : Q ≤ most_settings
  pub rates_long : cells N Q ≤ rates
  pub distortions_long : cells N Q ≤ distortions
  pub scratch_long : cells N Q ≤ scratch

pub import_admitted : (N Q rates distortions scratch : ℕ) → early_import N Q rates distortions scratch ≡ none → ImportAdmitted N Q rates distortions scratch
unfolding early_import
import_admitted N Q rates distortions scratch e =
    let p = all_pass (when (scans_out N) refusal.Scans ∷ when (settings_out Q) refusal.Settings ∷ when (import_short N Q rates distortions scratch) refusal.Buffer ∷ []) e in
    let n = in_range {most = most_scans} {x = N} (none_when _ _ p.0) in
    let q = in_range {most = most_settings} {x = Q} (none_when _ _ p.1.0) in
    let a = neither (ltb rates (cells N Q)) _ (none_when (import_short N Q rates distortions scratch) refusal.Buffer p.1.1.0) in
    let b = neither (ltb distortions (cells N Q)) (ltb scratch (cells N Q)) a.1 in
    record {
      some_scans = n.0;
      scans = n.1;
      some_settings = q.0;
      settings = q.1;
      rates_long = ltb-false _ _ a.0;
      distortions_long = ltb-false _ _ b.0;
      scratch_long = ltb-false _ _ b.1;
    }

pub import_admits : {N Q rates distortions scratch : ℕ} → ImportAdmitted N Q rates distortions scratch → early_import N Q rates distortions scratch ≡ none
unfolding early_import
import_admits {N} {Q} {rates} {distortions} {scratch} a =
    rw (
      passes_range a.some_scans a.scans,
      passes_range a.some_settings a.settings,
      le-ltb rates (cells N Q) a.rates_long,
      le-ltb distortions (cells N Q) a.distortions_long,
      le-ltb scratch (cells N Q) a.scratch_long,
    ) refl

-- 1 and 2 alone, as a stage of the code ends
pub ranges_stop : (N Q r d s : ℕ) {o : Option Refusal} {w : Refusal} → o ≡ first_refusal (when (scans_out N) refusal.Scans ∷ when (settings_out Q) refusal.Settings ∷ []) →
    o ≡ some w → o ≡ early_import N Q r d s
unfolding early_import
ranges_stop N Q r d s {o} {w} h e = of (when (scans_out N) refusal.Scans) (when (settings_out Q) refusal.Settings) h
  where
    of : (a b : Option Refusal) → o ≡ or_else a (or_else b none) → o ≡ or_else a (or_else b (or_else (when (import_short N Q r d s) refusal.Buffer) none))
    of (some x) b g = g
    of none (some x) g = g
    of none none g = let z : some w ≡ none = sym e ∙ g in never cc

-- .. and where they pass, 6
pub room_decides : (N Q r d s : ℕ) {o : Option Refusal} → first_refusal (when (scans_out N) refusal.Scans ∷ when (settings_out Q) refusal.Settings ∷ []) ≡ none →
    o ≡ when (import_short N Q r d s) refusal.Buffer → o ≡ early_import N Q r d s
unfolding early_import
room_decides N Q r d s {o} h e = of (when (scans_out N) refusal.Scans) (when (settings_out Q) refusal.Settings) h
  where
    of : (a b : Option Refusal) → or_else a (or_else b none) ≡ none → o ≡ or_else a (or_else b (or_else (when (import_short N Q r d s) refusal.Buffer) none))
    of (some x) b g = never cc
    of none (some x) g = never cc
    of none none g = e ∙ sym (else_nothing (when (import_short N Q r d s) refusal.Buffer))

pub short_is : (N Q r d s : ℕ) {o : Option Refusal} {b : Bool} {k : ℕ} → o ≡ when b refusal.Buffer → b ≡ (ltb r k || (ltb d k || ltb s k)) → k ≡ cells N Q →
    o ≡ when (import_short N Q r d s) refusal.Buffer
short_is N Q r d s h e c = h ∙ ap (λ (t : Bool). when t refusal.Buffer) (e ∙ ap (λ (n : ℕ). ltb r n || (ltb d n || ltb s n)) c)

pub in_both : (N Q : ℕ) → first_refusal (when (scans_out N) refusal.Scans ∷ when (settings_out Q) refusal.Settings ∷ []) ≡ none →
    ((1 ≤ N) × (N ≤ most_scans)) × (Q ≤ most_settings)
in_both N Q e =
    let p = all_pass (when (scans_out N) refusal.Scans ∷ when (settings_out Q) refusal.Settings ∷ []) e in
    (in_range {most = most_scans} {x = N} (none_when _ _ p.0), (in_range {most = most_settings} {x = Q} (none_when _ _ p.1.0)).1)

-- how an import ends: by what the checks, the lines and the tables come to
pub record Ended (N Q : ℕ) (text rates distortions scratch : List ℕ) (o : Option Refusal) (rates' distortions' scratch' : List ℕ) : Type 0 where
  pub answer : o ≡ import_refusal N Q text (length rates) (length distortions) (length scratch)
  pub rates_are : rates' ≡ rates_after (import_refusal N Q text (length rates) (length distortions) (length scratch)) N Q text rates
  pub distortions_are : distortions' ≡ distortions_after (import_refusal N Q text (length rates) (length distortions) (length scratch)) N Q text distortions
  pub scratch_is : scratch' ≡ scratch_after (early_import N Q (length rates) (length distortions) (length scratch)) N Q scratch

module _ (N Q : ℕ) (text rates distortions scratch : List ℕ) where
  abbrev checked : Option Refusal
  checked = early_import N Q (length rates) (length distortions) (length scratch)

  -- what is refused, by the checks and the lines
  by_parts : {a b : Option Refusal} → checked ≡ a → first_fault N Q 1 [] (lines text) ≡ b →
      import_refusal N Q text (length rates) (length distortions) (length scratch) ≡ or_else a b
  unfolding import_refusal
  by_parts {a} {b} p q = ap (λ (x : Option Refusal). or_else x (first_fault N Q 1 [] (lines text))) p ∙ ap (or_else a) q

  pub ended_early : {w : Refusal} → some w ≡ checked → Ended N Q text rates distortions scratch (some w) rates distortions scratch
  ended_early h =
      let r = by_parts (sym h) refl in
      record {
        answer = sym r;
        rates_are = sym (ap (λ (x : Option Refusal). rates_after x N Q text rates) r);
        distortions_are = sym (ap (λ (x : Option Refusal). distortions_after x N Q text distortions) r);
        scratch_is = ap (λ (x : Option Refusal). scratch_after x N Q scratch) h;
      }

  pub ended_judged : {w : Refusal} {scratch' : List ℕ} → checked ≡ none → some w ≡ first_fault N Q 1 [] (lines text) →
      scratch' ≡ filled (cells N Q) 0 scratch → Ended N Q text rates distortions scratch (some w) rates distortions scratch'
  ended_judged c h s =
      let r = by_parts c (sym h) in
      record {
        answer = sym r;
        rates_are = sym (ap (λ (x : Option Refusal). rates_after x N Q text rates) r);
        distortions_are = sym (ap (λ (x : Option Refusal). distortions_after x N Q text distortions) r);
        scratch_is = s ∙ sym (ap (λ (x : Option Refusal). scratch_after x N Q scratch) c);
      }

  pub ended_written : {rates' distortions' scratch' : List ℕ} → checked ≡ none → first_fault N Q 1 [] (lines text) ≡ none → scratch' ≡ filled (cells N Q) 0 scratch →
      rates' ≡ rates_after none N Q text rates → distortions' ≡ distortions_after none N Q text distortions →
      Ended N Q text rates distortions scratch none rates' distortions' scratch'
  ended_written c f s p q =
      let r = by_parts c f in
      record {
        answer = sym r;
        rates_are = p ∙ sym (ap (λ (x : Option Refusal). rates_after x N Q text rates) r);
        distortions_are = q ∙ sym (ap (λ (x : Option Refusal). distortions_after x N Q text distortions) r);
        scratch_is = s ∙ sym (ap (λ (x : Option Refusal). scratch_after x N Q scratch) c);
      }

-- an import that is not refused has passed the checks, and no line has a fault
pub import_passed : (N Q : ℕ) (text rates distortions scratch : List ℕ) → (import_of N Q text rates distortions scratch).ends ≡ none →
    ImportAdmitted N Q (length rates) (length distortions) (length scratch) × (first_fault N Q 1 [] (lines text) ≡ none)
unfolding import_refusal
import_passed N Q text rates distortions scratch e =
    let b = none_else (early_import N Q (length rates) (length distortions) (length scratch)) (first_fault N Q 1 [] (lines text)) e in
    (import_admitted N Q (length rates) (length distortions) (length scratch) b.0, b.1)

-- .. and one that has is not refused
pub import_passes : (N Q : ℕ) (text rates distortions scratch : List ℕ) → ImportAdmitted N Q (length rates) (length distortions) (length scratch) →
    first_fault N Q 1 [] (lines text) ≡ none → (import_of N Q text rates distortions scratch).ends ≡ none
import_passes N Q text rates distortions scratch a f = by_parts N Q text rates distortions scratch (import_admits a) f
