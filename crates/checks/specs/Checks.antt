-- The first check that fails: one way to say it for planning, room, files and bench. A check comes out as a refusal, or as none.
-- Assumes nothing.
use Rattle.std.specs.Prelude.{Bool, true, false, ◌||◌, cond, List, [], ◌∷◌, ℕ, zero, suc, eqb, ltb}
use Rattle.std.proofs.Math.Option.{Option, none, some}
use Rattle.tables.specs.declared.refusal.Refusal.{Refusal}
use Rattle.tables.specs.Refusals.{Reply, refused, answered}

-- "is 0 or over .."
unfoldable pub zero_or_over : ℕ → ℕ → Bool
zero_or_over most x = eqb x 0 || ltb most x

-- a test: the refusal where it holds
abbrev pub when : Bool → Refusal → Option Refusal
when true r = some r
when false r = none

-- the first of n numbers from j on that is so
abbrev pub first_from : (ℕ → Bool) → ℕ → ℕ → Option ℕ
first_from bad j zero = none
first_from bad j (suc n) = cond (bad j) (some j) (first_from bad (suc j) n)

-- the refusal of what is found
abbrev pub found : (ℕ → Refusal) → Option ℕ → Option Refusal
found r none = none
found r (some j) = some (r j)

-- the refusal of a check, and where it has none that of those after it
abbrev pub or_else : Option Refusal → Option Refusal → Option Refusal
or_else (some r) o = some r
or_else none o = o

-- the first refusal of some checks
abbrev pub first_refusal : List (Option Refusal) → Option Refusal
first_refusal [] = none
first_refusal (o ∷ l) = or_else o (first_refusal l)

-- what a call gives back: the refusal, or these values
abbrev pub or_answer : Option Refusal → List ℕ → Reply
or_answer none v = answered v
or_answer (some r) v = refused r
