-- Elements stored, copied and counted one after another. Assumes nothing.
use mathlib.Core.Path.{◌≡◌, ◌∙◌}
use mathlib.Core.List.{List}
use Prim.Native.Nat.{ℕ, ◌+◌, ◌≤◌, ◌<◌}
use native.Mathlib.Decide.{ℕ_discrete}
use native.Mathlib.Omega.{arith}
use lib.ListN.{length, get_or, set}
use lib.Seq.{get_or-set_same, get_or-set_other}
use mathlib.Core.List.{List, []}
use Prim.Native.Nat.{ℕ, ◌+◌, ◌*◌, ◌≤◌, ◌<◌}
use native.Mathlib.Nat.{mul-le-mul_right, suc-mul}
use lib.ListN.{length, get_or, set}
use mathlib.Core.Path.{◌≡◌, refl, ap, ◌∙◌}
use mathlib.Core.List.{List, [], ◌∷◌, ◌++◌}
use Prim.Native.Nat.{ℕ, zero, suc, ◌+◌, ◌*◌, ◌≤◌, ◌<◌}
use native.Mathlib.Nat.{not-suc-le-zero, le_of_suc-le-suc}
use native.Mathlib.Numerals.{add-one}
use lib.ListN.{get_or, set, length, take, drop}

-- what was stored from lo up to q, and now at q too, stands from lo up to q + 1
pub stored_more {ℓ} : {A : Type ℓ} (d : A) (x : ℕ → A) {lo : ℕ} (l : List A) (q : ℕ) (v : A) → q < length l → v ≡ x q →
    ((r : ℕ) → lo ≤ r → r < q → get_or l r d ≡ x r) → (r : ℕ) → lo ≤ r → r < q + 1 → get_or (set l q v) r d ≡ x r
stored_more d x l q v h e f r g m = at (ℕ_discrete r q)
  where
    at : Dec (r ≡ q) → get_or (set l q v) r d ≡ x r
    at (yes z) = rw z (get_or-set_same l q v d h ∙ e)
    at (no z) = get_or-set_other l q r v d z ∙ f r g (omega arith)

-- part j of m parts of k ends within them
pub part_inside : (k : ℕ) {j m : ℕ} → j < m → j * k + k ≤ m * k
part_inside k {j} {m} h = rw suc-mul at (mul-le-mul_right k h)

-- w is copied over d from the front, one element more
copy_suc : (i : ℕ) (w d : List ℕ) → i < length w → i < length d →
    set (take i w ++ drop i d) i (get_or w i 0) ≡ take (suc i) w ++ drop (suc i) d
copy_suc i [] d l m = absurd (not-suc-le-zero l)
copy_suc i (x ∷ w) [] l m = absurd (not-suc-le-zero m)
copy_suc zero (x ∷ w) (y ∷ d) l m = refl
copy_suc (suc i) (x ∷ w) (y ∷ d) l m = ap (λ (t : List ℕ). x ∷ t) (copy_suc i w d (le_of_suc-le-suc l) (le_of_suc-le-suc m))

-- .. as a loop stores it
pub copy_more : (i v : ℕ) (w d : List ℕ) → v ≡ get_or w i 0 → i < length w → i < length d →
    set (take i w ++ drop i d) i v ≡ take (i + 1) w ++ drop (i + 1) d
copy_more i v w d e l m = rw (e, add-one) (copy_suc i w d l m)
