-- Where a choice stands: two choices stand apart, and a call's choices stand within its scratch. Assumes nothing.
use mathlib.Core.Path.{◌≡◌}
use mathlib.Core.List.{List}
use Prim.Native.Nat.{ℕ, suc, ◌+◌, ◌*◌, ◌≤◌, ◌<◌}
use native.Mathlib.Nat.{mul-le-mul_right}
use native.Mathlib.Decide.{dec_lt}
use native.Mathlib.Omega.{arith}
use lib.ListN.{length, set, length-set}
use lib.Seq.{get_or-set_same, get_or-set_other}
use Rattle.laws.proofs.Lists.{part_inside}
use Rattle.tables.specs.Tables.{scratch_need}
use Rattle.trellis.specs.Choices.{choice, ChoiceStored}

-- the byte of a choice is one of the scratch of every call that has its scan
pub place_inside : (Q i p room : ℕ) → p < Q → scratch_need (suc i) Q ≤ room → i * Q + p < room
unfolding scratch_need
place_inside Q i p room h g = omega (arith, part_inside Q {j = i} {m = suc i} (omega arith))

-- .. and no byte beyond that scratch
beyond_place : (Q i p N k : ℕ) → p < Q → i < N → scratch_need N Q ≤ k → k ≡ i * Q + p → ⊥
unfolding scratch_need
beyond_place Q i p N k h g l e = omega (arith, part_inside Q {j = i} {m = N} g)

-- two choices at one place are one
one_place : (Q i p j r : ℕ) → p < Q → r < Q → j * Q + r ≡ i * Q + p → (j ≡ i) × (r ≡ p)
one_place Q i p j r h g e = by_order (dec_lt j i) (dec_lt i j)
  where
    by_order : Dec (j < i) → Dec (i < j) → (j ≡ i) × (r ≡ p)
    by_order (yes l) d = absurd (omega (arith, part_inside Q {j = j} {m = i} l))
    by_order (no l) (yes m) = absurd (omega (arith, part_inside Q {j = i} {m = j} m))
    by_order (no l) (no m) = let z : j ≡ i = omega arith in (z, let f = (rw z at e) in omega arith)

-- a store at its place stores the choice
pub stored_choice : (Q i p v : ℕ) (scratch : List ℕ) → p < Q → i * Q + p < length scratch →
    ChoiceStored Q i p v scratch (set scratch (i * Q + p) v)
unfolding choice
stored_choice Q i p v scratch h g = record {
  here = get_or-set_same scratch (i * Q + p) v 0 g;
  others = λ j r l ne. get_or-set_other scratch (i * Q + p) (j * Q + r) v 0 (λ e. let o = one_place Q i p j r h l e in ne o.0 o.1);
  beyond = λ N k l m. get_or-set_other scratch (i * Q + p) k v 0 (beyond_place Q i p N k h l m);
  long = length-set scratch (i * Q + p) v;
}

-- the scratch of a call holds the choices of each of its scans
pub need_more : (N Q i : ℕ) → i < N → scratch_need (suc i) Q ≤ scratch_need N Q
unfolding scratch_need
need_more N Q i h = mul-le-mul_right {m = suc i} {n = N} Q h
