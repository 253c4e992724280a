-- A refusal is settled by its number and what it carries, and its number is never 0. Assumes nothing.
use mathlib.Core.Path.{◌≡◌, refl, sym, ap, ◌∙◌}
use mathlib.Core.Bool.{cond}
use mathlib.Core.List.{List}
use Prim.Native.Nat.{ℕ}
use native.Mathlib.Omega.{arith}
use lib.Dec.{eqb}
use lib.ListN.{get_or}
use Rattle.tables.specs.declared.refusal.Refusal.{Refusal}
use Rattle.tables.specs.declared.refusal.Refusal.TheVariants.{Scans, Settings, StepLaw, Multiplier, Lengths, Buffer, Cell, NoSequence, NoneWithin, Channels, FileLength, Block, Header, Entry, Malformed, OutOfRange, Twice, Budget}
use Rattle.tables.specs.Refusals.{Reply, refused, answered, number_of, carried_by}

-- the refusal of a number that carries k
abbrev pub refusal_of : ℕ → ℕ → Refusal
refusal_of n k =
    cond (eqb n 1) Scans
    (cond (eqb n 2) Settings
    (cond (eqb n 3) StepLaw
    (cond (eqb n 4) Multiplier
    (cond (eqb n 5) Lengths
    (cond (eqb n 6) Buffer
    (cond (eqb n 7) (Cell k)
    (cond (eqb n 8) NoSequence
    (cond (eqb n 9) NoneWithin
    (cond (eqb n 10) Channels
    (cond (eqb n 11) FileLength
    (cond (eqb n 12) (Block k)
    (cond (eqb n 13) (Header k)
    (cond (eqb n 14) (Entry k)
    (cond (eqb n 16) (Malformed k)
    (cond (eqb n 17) (OutOfRange k)
    (cond (eqb n 18) (Twice k) Budget))))))))))))))))

pub refusal_back : (r : Refusal) → refusal_of (number_of r) (carried_by r) ≡ r
refusal_back Scans = refl
refusal_back Settings = refl
refusal_back StepLaw = refl
refusal_back Multiplier = refl
refusal_back Lengths = refl
refusal_back Buffer = refl
refusal_back (Cell k) = refl
refusal_back NoSequence = refl
refusal_back NoneWithin = refl
refusal_back Channels = refl
refusal_back FileLength = refl
refusal_back (Block b) = refl
refusal_back (Header byte) = refl
refusal_back (Entry e) = refl
refusal_back (Malformed line) = refl
refusal_back (OutOfRange line) = refl
refusal_back (Twice line) = refl
refusal_back Budget = refl

pub refused_unique : {r r' : Refusal} → refused r ≡ refused r' → r ≡ r'
refused_unique {r} {r'} e =
    sym (refusal_back r) ∙ ap (λ (x : Reply). refusal_of x.number (get_or x.values 0 0)) e ∙ refusal_back r'

pub never_zero : (r : Refusal) → number_of r ≡ 0 → ⊥
never_zero Scans e = omega arith
never_zero Settings e = omega arith
never_zero StepLaw e = omega arith
never_zero Multiplier e = omega arith
never_zero Lengths e = omega arith
never_zero Buffer e = omega arith
never_zero (Cell k) e = omega arith
never_zero NoSequence e = omega arith
never_zero NoneWithin e = omega arith
never_zero Channels e = omega arith
never_zero FileLength e = omega arith
never_zero (Block b) e = omega arith
never_zero (Header byte) e = omega arith
never_zero (Entry k) e = omega arith
never_zero (Malformed line) e = omega arith
never_zero (OutOfRange line) e = omega arith
never_zero (Twice line) e = omega arith
never_zero Budget e = omega arith

-- an answer is no refusal
pub answered_or_refused : {v : List ℕ} (r : Refusal) → answered v ≡ refused r → ⊥
answered_or_refused r e = never_zero r (sym (ap (λ (x : Reply). x.number) e))
