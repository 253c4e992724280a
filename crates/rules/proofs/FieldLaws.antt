-- What the header rules tell of the fields. Assumes nothing.
use mathlib.Core.Path.{◌≡◌, refl}
use mathlib.Core.Bool.{Bool, true, false, not, ◌||◌, ◌&&◌, cond}
use mathlib.Core.Option.{none}
use Prim.Native.Nat.{ℕ, ◌≤◌}
use native.Mathlib.Omega.{arith}
use lib.Dec.{eqb, ltb}
use borrow.Author.Tests.{eqb-true, ltb-false, not-false}
use Rattle.criteria.specs.Fraction.{gcd}
use Rattle.tables.specs.Limits.{most_scans, most_settings, most_term, most_total, most_cell}
use Rattle.checks.specs.Checks.{first_refusal, zero_or_over}
use Rattle.checks.specs.Planning.{scans_out, settings_out}
use Rattle.checks.proofs.GiveLaws.{Gives, gives_first, gives_when}
use Rattle.tables.specs.declared.refusal.Refusal.{Refusal}
use Rattle.tables.specs.declared.refusal.Refusal.TheVariants as refusal
use Rattle.checks.proofs.RangeLaws.{in_range}
use Rattle.laws.proofs.Tests.{neither}
use Rattle.rules.specs.declared.Fields.{Fields}
use Rattle.rules.specs.declared.Faults.{Faults}
use Rattle.rules.specs.Rules.{rule, header_rules, neither_of_two, n_broken, d_broken, rate_broken, peak_broken, floor_broken}
use Rattle.checks.proofs.CheckLaws.{all_pass, none_when}

-- a number that is 0 or 1
zero_or_one : (x : ℕ) → neither_of_two x ≡ false → x ≤ 1
zero_or_one x e = either_way (eqb x 0) (eqb x 1) (eqb-true x 0) (eqb-true x 1) (not-false _ e)
  where
    either_way : (a b : Bool) → (a ≡ true → x ≡ 0) → (b ≡ true → x ≡ 1) → (a || b) ≡ true → x ≤ 1
    either_way true b f g e = omega (arith, f refl)
    either_way false b f g e = omega (arith, g e)

-- n is a term, whatever the kind
n_small : (kind n d : ℕ) → n_broken kind n d ≡ false → n ≤ most_term
unfolding n_broken
n_small kind n d e = by_kind (eqb kind 0) e
  where
    by_kind : (t : Bool) → cond t (ltb most_term n || (not (zero_or_over most_term d) && not (eqb (gcd n d) 1))) (not (eqb n 0)) ≡ false
        → n ≤ most_term
    by_kind true e = ltb-false most_term n (neither _ _ e).0
    by_kind false e = omega (arith, eqb-true n 0 (not-false _ e))

-- and so is d
d_small : (kind d : ℕ) → d_broken kind d ≡ false → d ≤ most_term
unfolding d_broken
d_small kind d e = by_kind (eqb kind 0) e
  where
    by_kind : (t : Bool) → cond t (zero_or_over most_term d) (not (eqb d 0)) ≡ false → d ≤ most_term
    by_kind true e = (in_range e).1
    by_kind false e = omega (arith, eqb-true d 0 (not-false _ e))

-- the floor is at most the distortion, or 0
floor_small : (kind floor distortion : ℕ) → floor_broken kind floor distortion ≡ false → floor ≤ distortion
floor_small kind floor distortion e = by_kind (eqb kind 0) e
  where
    by_kind : (t : Bool) → cond t (ltb distortion floor) (not (eqb floor 0)) ≡ false → floor ≤ distortion
    by_kind true e = ltb-false distortion floor e
    by_kind false e = omega (arith, eqb-true floor 0 (not-false _ e))

-- every rule of the header is kept
pub record RulesHold (lawless : Bool) (m : Faults) (f : Fields) : Type 0 where
  pub letters : m.letters ≡ false
  pub scans : (scans_out f.scans || m.length) ≡ false
  pub settings : settings_out f.settings ≡ false
  pub law : lawless ≡ false
  pub kind : neither_of_two f.kind ≡ false
  pub weighted : (m.run_13 || neither_of_two f.weighted) ≡ false
  pub run_14 : m.run_14 ≡ false
  pub n : n_broken f.kind f.n f.d ≡ false
  pub d : d_broken f.kind f.d ≡ false
  pub rate : rate_broken f.rate.0 f.budget ≡ false
  pub distortion : ltb most_total f.distortion.0 ≡ false
  pub peak : peak_broken f.weighted f.peak f.distortion.0 ≡ false
  pub floor : floor_broken f.kind f.floor.0 f.distortion.0 ≡ false
  pub run_48 : m.run_48 ≡ false

-- where the header rules give no refusal, each is kept
pub rules_hold : (lawless : Bool) (m : Faults) (f : Fields) → first_refusal (header_rules lawless m f) ≡ none → RulesHold lawless m f
rules_hold lawless m f e =
    let p = all_pass (header_rules lawless m f) e in
    let q = p.1.1.1.1.1.1.1 in
    record {
      letters = none_when _ _ p.0;
      scans = none_when _ _ p.1.0;
      settings = none_when _ _ p.1.1.0;
      law = none_when _ _ p.1.1.1.0;
      kind = none_when _ _ p.1.1.1.1.0;
      weighted = none_when _ _ p.1.1.1.1.1.0;
      run_14 = none_when _ _ p.1.1.1.1.1.1.0;
      n = none_when _ _ q.0;
      d = none_when _ _ q.1.0;
      rate = none_when _ _ q.1.1.0;
      distortion = none_when _ _ q.1.1.1.0;
      peak = none_when _ _ q.1.1.1.1.0;
      floor = none_when _ _ q.1.1.1.1.1.0;
      run_48 = none_when _ _ q.1.1.1.1.1.1.0;
    }

-- and where each is kept, they give none
pub rules_pass : (lawless : Bool) (m : Faults) (f : Fields) → RulesHold lawless m f → first_refusal (header_rules lawless m f) ≡ none
rules_pass lawless m f k =
    rw (
      k.letters,
      k.scans,
      k.settings,
      k.law,
      k.kind,
      k.weighted,
      k.run_14,
      k.n,
      k.d,
      k.rate,
      k.distortion,
      k.peak,
      k.floor,
      k.run_48,
    )

-- the limits of the fields
pub record Limited (f : Fields) : Type 0 where
  pub scans : f.scans ≤ most_scans
  pub settings : f.settings ≤ most_settings
  pub kind : f.kind ≤ 1
  pub n : f.n ≤ most_term
  pub d : f.d ≤ most_term
  pub rate : f.rate.0 ≤ most_total
  pub distortion : f.distortion.0 ≤ most_total
  pub peak : f.peak ≤ most_cell
  pub floor : f.floor.0 ≤ most_total
  pub weighted : f.weighted ≤ 1

-- fields that keep their rules keep within the limits
pub limited : (lawless : Bool) (m : Faults) (f : Fields) → RulesHold lawless m f → Limited f
limited lawless m f k =
    let total : f.distortion.0 ≤ most_total = ltb-false most_total f.distortion.0 k.distortion in
    record {
      scans = (in_range (neither (scans_out f.scans) m.length k.scans).0).1;
      settings = (in_range k.settings).1;
      kind = zero_or_one f.kind k.kind;
      n = n_small f.kind f.n f.d k.n;
      d = d_small f.kind f.d k.d;
      rate = ltb-false most_total f.rate.0 (neither _ _ k.rate).0;
      distortion = total;
      peak = ltb-false most_cell f.peak (neither _ _ k.peak).0;
      floor = omega (arith, floor_small f.kind f.floor.0 f.distortion.0 k.floor, total);
      weighted = zero_or_one f.weighted (neither m.run_13 _ k.weighted).1;
    }

-- what holds of the refusals of the header, whose fields start at byte 48 or before, holds of the first that is given
pub rules_give : (P : Refusal → Type 0) (lawless : Bool) (m : Faults) (f : Fields) → ((byte : ℕ) → byte ≤ 48 → P (refusal.Header byte)) →
    Gives P (first_refusal (header_rules lawless m f))
rules_give P lawless m f h =
    gives_first P (header_rules lawless m f) (
      at m.letters 4 (omega arith),
      (
        at (scans_out f.scans || m.length) 8 (omega arith),
        (
          at (settings_out f.settings) 10 (omega arith),
          (
            at lawless 11 (omega arith),
            (
              at (neither_of_two f.kind) 12 (omega arith),
              (
                at (m.run_13 || neither_of_two f.weighted) 13 (omega arith),
                (
                  at m.run_14 14 (omega arith),
                  (
                    at (n_broken f.kind f.n f.d) 24 (omega arith),
                    (
                      at (d_broken f.kind f.d) 28 (omega arith),
                      (
                        at (rate_broken f.rate.0 f.budget) 32 (omega arith),
                        (
                          at (ltb most_total f.distortion.0) 36 (omega arith),
                          (
                            at (peak_broken f.weighted f.peak f.distortion.0) 40 (omega arith),
                            (
                              at (floor_broken f.kind f.floor.0 f.distortion.0) 44 (omega arith),
                              (
                                at m.run_48 48 (omega arith),
                                tt,
                              ),
                            ),
                          ),
                        ),
                      ),
                    ),
                  ),
                ),
              ),
            ),
          ),
        ),
      ),
    )
  where
    at : (b : Bool) (byte : ℕ) → byte ≤ 48 → Gives P (rule byte b)
    at b byte l = gives_when P b (refusal.Header byte) (h byte l)
