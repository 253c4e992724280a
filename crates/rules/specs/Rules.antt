-- Document 01, "Plan file", with document 02, [5]: the rules, each with the byte that it is charged to. Assumes nothing.
use Rattle.std.specs.Prelude.{Bool, not, ◌||◌, ◌&&◌, cond, List, [], ◌∷◌, ℕ, eqb, ltb}
use Rattle.std.proofs.Math.Option.{Option}
use Rattle.criteria.specs.Fraction.{gcd}
use Rattle.tables.specs.declared.refusal.Refusal.{Refusal}
use Rattle.tables.specs.declared.refusal.Refusal.TheVariants as refusal
use Rattle.tables.specs.Limits.{most_term, most_total, most_cell}
use Rattle.checks.specs.Checks.{when, zero_or_over}
use Rattle.checks.specs.Planning.{scans_out, settings_out}
use Rattle.rules.specs.declared.Fields.{Fields}
use Rattle.rules.specs.declared.Faults.{Faults}

-- "kind, 0 average, 1 minmax"; document 02, [5]: "byte 13 becomes a field of its own, 0 or 1"
abbrev pub neither_of_two : ℕ → Bool
neither_of_two x = not (eqb x 0 || eqb x 1)

-- "Kind 0: n/d in lowest terms within the multiplier limits .. . Kind 1: n, d and floor are 0." "Where n and d are each in range but not in
-- lowest terms, the field is n (byte 24)."
unfoldable pub n_broken : (kind n d : ℕ) → Bool
n_broken kind n d = cond (eqb kind 0) (ltb most_term n || (not (zero_or_over most_term d) && not (eqb (gcd n d) 1))) (not (eqb n 0))

unfoldable pub d_broken : (kind d : ℕ) → Bool
d_broken kind d = cond (eqb kind 0) (zero_or_over most_term d) (not (eqb d 0))

-- "rate at most B; rate and distortion at most 1,073,740,800"; "A rate above B is charged to the rate"
abbrev pub rate_broken : (rate B : ℕ) → Bool
rate_broken rate B = ltb most_total rate || ltb B rate

-- "peak at most 1,048,575 and at most the distortion"; "a peak or floor above the distortion to the peak or floor". Document 02, [5]: "the
-- header rule that bounds the peak by the distortion applies only where byte 13 is 0".
abbrev pub peak_broken : (weighted peak distortion : ℕ) → Bool
peak_broken weighted peak distortion = ltb most_cell peak || (eqb weighted 0 && ltb distortion peak)

-- "floor at most the distortion"; "Kind 1: .. floor .. 0"
abbrev pub floor_broken : (kind floor distortion : ℕ) → Bool
floor_broken kind floor distortion = cond (eqb kind 0) (ltb distortion floor) (not (eqb floor 0))

abbrev pub rule : ℕ → Bool → Option Refusal
rule byte broken = when broken (refusal.Header byte)

-- refusal 13, "a header field breaks its rule", with the "lowest byte of the first such field": the fields in byte order. `lawless` says that
-- the law is none of those that the file may carry. Document 02, [5]: "In QPL2, byte 13 becomes a field of its own, 0 or 1 ..; 14 to 15 stay
-- zero as the next field. QPL1 keeps 13 to 15 zero."
abbrev pub header_rules : (lawless : Bool) → Faults → Fields → List (Option Refusal)
header_rules lawless m f =
    rule 4 m.letters
    ∷ rule 8 (scans_out f.scans || m.length)
    ∷ rule 10 (settings_out f.settings)
    ∷ rule 11 lawless
    ∷ rule 12 (neither_of_two f.kind)
    ∷ rule 13 (m.run_13 || neither_of_two f.weighted)
    ∷ rule 14 m.run_14
    ∷ rule 24 (n_broken f.kind f.n f.d)
    ∷ rule 28 (d_broken f.kind f.d)
    ∷ rule 32 (rate_broken f.rate.0 f.budget)
    ∷ rule 36 (ltb most_total f.distortion.0)
    ∷ rule 40 (peak_broken f.weighted f.peak f.distortion.0)
    ∷ rule 44 (floor_broken f.kind f.floor.0 f.distortion.0)
    ∷ rule 48 m.run_48
    ∷ []
