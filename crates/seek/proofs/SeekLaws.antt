-- What a pass finds, in the words of the criteria: one key stands for two, and the sequences of a pass are those under its ceiling.
-- Assumes nothing.
use mathlib.Core.Path.{◌≡◌, refl, ap}
use mathlib.Core.Bool.{Bool, true}
use mathlib.Core.List.{List, [], ◌∷◌, ◌++◌}
use Prim.Native.Nat.{ℕ, suc, ◌+◌, ◌≤◌, ◌<◌}
use native.Mathlib.Omega.{arith}
use lib.ListN.{length, drop, replicate, length-drop}
use lib.Seq.{ext_get_or, get_or-drop}
use Rattle.criteria.specs.Choice.{Problem, UnderCeiling, InBudget, Ceiling, NoneWithin}
use Rattle.criteria.specs.Passes.{Thriftiest}
use Rattle.tables.specs.Limits.{most_cell, most_total, most_scans, most_settings}
use Rattle.tables.specs.Law.{Law}
use Rattle.tables.specs.Series.{Series, Kept, largest}
use Rattle.tables.specs.Tables.{scratch_need, Table, table_under, series, planning}
use Rattle.tables.proofs.Bounds.{Bounded, table_small, rate_small, distortion_small, peak_small}
use Rattle.criteria.proofs.Agree.{best_same}
use Rattle.criteria.proofs.Order.{then_le}
use Rattle.keys.specs.OneKey.{Least, Weighed, rate_first}
use Rattle.keys.proofs.OneKeyLaws.{multiplier_by_key, ceiling_by_key, rates_first}
use Rattle.least.specs.declared.Rule.{Rule}
use Rattle.trellis.specs.Choices.{chosen}
use Rattle.walk.specs.Walked.{TotalsOf}
use Rattle.walk.specs.declared.Totals.{Totals}
use Rattle.checks.specs.Fit.{Fit}
use Rattle.trellis.specs.Pass.{under, PassOf, pass_problem}
use Rattle.checks.proofs.FitLaws.{fit_legal}
use Rattle.seek.specs.Sought.{no_ceiling, Framed, ThriftyPass, MultiplierPass, ThriftyTotals}

-- a sequence of steps under a ceiling has its peak under it, and the other way round
under_peak : (S : Series) (X i p : ℕ) (s : List ℕ) → Kept (under X S) i p s → Kept S i p s × (largest S.height i p s ≤ X)
under_peak S X i p [] k = (tt, omega arith)
under_peak S X i p (q ∷ s) k = let r = under_peak S X (suc i) q s k.2 in ((k.0, k.1.0, r.0), omega (arith, r.1, k.1.1))

peak_under : (S : Series) (X i p : ℕ) (s : List ℕ) → Kept S i p s → largest S.height i p s ≤ X → Kept (under X S) i p s
peak_under S X i p [] k h = tt
peak_under S X i p (q ∷ s) k h = (k.0, (k.1, omega arith), peak_under S X (suc i) q s k.2 (omega arith))

-- the least of the same candidates
least_same : {C C' : List ℕ → Type 0} {k : List ℕ → ℕ} {s : List ℕ} → ((t : List ℕ) → C t → C' t) → ((t : List ℕ) → C' t → C t) → Least C k s → Least C' k s
least_same {s = s} to from l = record { one = to s l.one; ahead = λ t c. l.ahead t (from t c) }

-- a table under any law
module _ {N Q : ℕ} (law : Law) {rates distortions weights : List ℕ} {room : ℕ} (fit : Fit N Q rates distortions weights room) where
  abbrev T : Table
  T = table_under law N Q rates distortions weights

  abbrev P : Problem
  P = planning T

  small : Bounded (series T)
  small = table_small T (fit_legal {t = T} fit)

  pub sums_small : (t : List ℕ) → P.allowed t → (P.distortion t ≤ most_total) × (P.rate t ≤ most_total)
  sums_small t a = (distortion_small (series T) small t a, rate_small (series T) small t a)

  pub peak_fits : (t : List ℕ) → P.allowed t → P.peak t ≤ most_cell
  peak_fits t a = peak_small (series T) small t a

  pass_under_peak : (X : ℕ) (t : List ℕ) → (pass_problem X T).allowed t → UnderCeiling P X t
  pass_under_peak X t a = let r = under_peak (series T) X 0 0 t a.1 in ((a.0, r.0), r.1)

  under_pass : (X : ℕ) (t : List ℕ) → UnderCeiling P X t → (pass_problem X T).allowed t
  under_pass X t w = (w.0.0, peak_under (series T) X 0 0 t w.0.1 w.1)

  -- everything allowed is under no ceiling
  pub open_under : (t : List ℕ) → P.allowed t → UnderCeiling P no_ceiling t
  open_under t a = (a, omega (arith, peak_fits t a))

  pub thrifty_passed : {rule : Rule} {before after : List ℕ} {found : Bool} → rule.a ≡ 1 → rule.b ≡ rate_first →
      PassOf (pass_problem rule.ceiling T) N Q rule before after found → ThriftyPass P N Q rule.ceiling before after found
  thrifty_passed {rule} {before} {after} ea eb p = record {
    none = λ e t w. p.none e t (under_pass rule.ceiling t w);
    some = λ e. (ceiling_by_key P most_total sums_small rule.ceiling rule.a rule.b (rw (ea, eb) rates_first) (chosen Q N after)).0
        (least_same (pass_under_peak rule.ceiling) (under_pass rule.ceiling) (p.some e));
    framed = record { long = p.long; rest = p.rest };
  }

  pub multiplier_passed : {rule : Rule} {before after : List ℕ} {found : Bool} (n d : ℕ) → Weighed n d rule.a rule.b → rule.ceiling ≡ no_ceiling →
      PassOf (pass_problem rule.ceiling T) N Q rule before after found → MultiplierPass P N Q n d before after found
  multiplier_passed {rule} {before} {after} n d w e p = record {
    none = λ f t a. p.none f t (under_pass rule.ceiling t (rw e (open_under t a)));
    some = λ f. (multiplier_by_key P most_total sums_small n d rule.a rule.b w.near (chosen Q N after)).0
        (least_same (λ t a. (pass_under_peak rule.ceiling t a).0) (λ t a. under_pass rule.ceiling t (rw e (open_under t a))) (p.some f));
    framed = record { long = p.long; rest = p.rest };
  }

  -- with no ceiling the least-rate plan is the thriftiest
  pub open_thriftiest : {s : List ℕ} → Ceiling P no_ceiling s → Thriftiest P s
  open_thriftiest c = best_same (λ t w. w.0) open_under (λ t w. refl) (λ t w. refl) c

  -- refusal 9 of a call with a budget: the plan of a pass with no ceiling does not fit
  pub nothing_fits : {before after : List ℕ} {found : Bool} {B R : ℕ} → ThriftyPass P N Q no_ceiling before after found → found ≡ true →
      R ≡ P.rate (chosen Q N after) → B < R → NoneWithin P (InBudget P B)
  nothing_fits {after = after} p f e h =
      let c = open_thriftiest (p.some f) in
      record { exist = (chosen Q N after, c.one); none_within = λ t w. omega (arith, then_le (c.ahead t w.0), w.1) }

  -- .. or it does
  pub thrifty_totals : {before after : List ℕ} {found : Bool} {B : ℕ} {t : Totals} → ThriftyPass P N Q no_ceiling before after found → found ≡ true →
      TotalsOf P (chosen Q N after) t → t.rate.0 ≤ B → ThriftyTotals P B t
  thrifty_totals {after = after} p f h g =
      record { plan = chosen Q N after; thriftiest = open_thriftiest (p.some f); totals = h; fits = omega (arith, h.rate) }

-- refusal 9 of a ceiling call: something is under another ceiling, and nothing is under X
pub nothing_under : {P : Problem} {N Q X Y : ℕ} {before after : List ℕ} {found : Bool} → ThriftyPass P N Q Y before after found → found ≡ true →
    ((t : List ℕ) → UnderCeiling P X t → ⊥) → NoneWithin P (UnderCeiling P X)
nothing_under {N = N} {Q = Q} {after = after} p f none = record { exist = (chosen Q N after, (p.some f).one.0); none_within = none }

-- frames, one after another
pub framed_on : {k : ℕ} {a b c : List ℕ} → Framed k a b → Framed k b c → Framed k a c
framed_on f g = record { long = cc (f.long, g.long); rest = λ i h. cc (f.rest i h, g.rest i h) }

pub framed_none : {k : ℕ} (a : List ℕ) → Framed k a a
framed_none a = record { long = refl; rest = λ i h. refl }

-- wiping what a pass left is wiping what was there before it
pub wiped_same : {k : ℕ} {before after : List ℕ} → Framed k before after → replicate k 0 ++ drop k after ≡ replicate k 0 ++ drop k before
wiped_same {k} {before} {after} f = ap (λ (l : List ℕ). replicate k 0 ++ l) (ext_get_or 0 (drop k after) (drop k before)
    (rw (length-drop k after, length-drop k before, f.long))
    (λ i h. rw (get_or-drop k after i 0, get_or-drop k before i 0) (f.rest (k + i) (omega arith))))

-- scratch is as long after a pass as before it
pub fit_framed : {N Q k : ℕ} {rates distortions weights before after : List ℕ} → Fit N Q rates distortions weights (length before) → Framed k before after →
    Fit N Q rates distortions weights (length after)
fit_framed fit f = rw f.long fit

-- .. and so has the room that it had
pub room_framed : {k : ℕ} {before after : List ℕ} → k ≤ length before → Framed k before after → k ≤ length after
room_framed h f = rw f.long h

-- so it can be wiped
pub wipe_fits : {N Q : ℕ} {rates distortions weights : List ℕ} {room : ℕ} → Fit N Q rates distortions weights room →
    (N ≤ most_scans) × ((Q ≤ most_settings) × (scratch_need N Q ≤ room))
wipe_fits f = (f.scans, (f.settings, f.room))
