-- What is found going up from 0, one number after the other. Assumes nothing.
use mathlib.Core.Path.{◌≡◌, sym, ap, ◌∙◌}
use mathlib.Core.Bool.{Bool, true, false}
use mathlib.Core.Option.{none, some}
use Prim.Native.Nat.{ℕ, ◌≤◌, ◌<◌}
use native.Mathlib.Nat.{zero-add}
use native.Mathlib.Omega.{arith}
use Rattle.laws.proofs.Tests.{never}
use Rattle.tables.specs.declared.refusal.Refusal.{Refusal}
use Rattle.checks.specs.Checks.{when, found, first_from}
use Rattle.checks.proofs.CheckLaws.{first_found, none_first}

-- a test of number k that refused, where those of the numbers before it did not: k is what is found
pub found_at : (r : ℕ → Refusal) (bad : ℕ → Bool) (n k : ℕ) {t : Bool} {w : Refusal} → ((i : ℕ) → i < k → bad i ≡ false) → k < n → t ≡ bad k
    → some w ≡ when t (r k) → some w ≡ found r (first_from bad 0 n)
found_at r bad n k {t = false} below h e f = never cc
found_at r bad n k {t = true} below h e f =
    f
    ∙ ap (λ j. found r (some j)) (sym (zero-add k))
    ∙ sym (ap (found r) (first_found bad 0 k n (λ i g. rw (zero-add i) (below i g)) h (rw (zero-add k) (sym e))))

-- where none is so, none is found
pub found_none : (r : ℕ → Refusal) (bad : ℕ → Bool) (n k : ℕ) → ((i : ℕ) → i < k → bad i ≡ false) → n ≤ k → none ≡ found r (first_from bad 0 n)
found_none r bad n k below h = sym (ap (found r) (none_first n bad 0 (λ i g l. below i (omega arith))))
