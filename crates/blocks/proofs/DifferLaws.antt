-- Bytes that differ from those that should stand there, and bytes that do not. Assumes nothing.
use mathlib.Core.Path.{◌≡◌, refl, sym, ap, ◌∙◌}
use mathlib.Core.Bool.{Bool, false, not, ◌||◌}
use mathlib.Core.List.{List, [], ◌∷◌}
use Prim.Native.Nat.{ℕ, zero, suc}
use native.Mathlib.Omega.{arith}
use lib.Dec.{eqb}
use lib.ListN.{length, replicate}
use Rattle.std.specs.List.{list_any}
use borrow.Author.Tests.{ne_eqb, eqb-true, not-false}
use Rattle.laws.proofs.Tests.{neither}
use Rattle.blocks.specs.Differ.{differ}

-- as many bytes, none of which differs
pub no_difference : (s t : List ℕ) → length t ≡ length s → differ s t ≡ false → s ≡ t
no_difference [] [] e d = refl
no_difference [] (b ∷ t) e d = absurd (omega arith)
no_difference (a ∷ s) [] e d = absurd (omega arith)
no_difference (a ∷ s) (b ∷ t) e d =
    let n = neither (not (eqb a b)) (differ s t) d in
    let p : a ≡ b = eqb-true a b (not-false _ n.0) in
    rw p (ap (λ (r : List ℕ). b ∷ r) (no_difference s t (omega arith) n.1))

-- zero is the same as a number where the number is zero
zero_same : (b : ℕ) → eqb 0 b ≡ eqb b 0
zero_same zero = refl
zero_same (suc b) = ne_eqb 0 (suc b) (λ e. absurd (omega (arith, e))) ∙ sym (ne_eqb (suc b) 0 (λ e. absurd (omega (arith, e))))

-- some byte is not zero, where as many zeros should stand
pub zeros_differ : (k : ℕ) (t : List ℕ) → length t ≡ k → list_any (λ b. not (eqb b 0)) t ≡ differ (replicate k 0) t
zeros_differ zero [] e = refl
zeros_differ zero (b ∷ t) e = absurd (omega arith)
zeros_differ (suc k) [] e = absurd (omega arith)
zeros_differ (suc k) (b ∷ t) e =
    ap (λ (x : Bool). not x || list_any (λ b. not (eqb b 0)) t) (sym (zero_same b))
    ∙ ap (λ (x : Bool). not (eqb 0 b) || x) (zeros_differ k t (omega arith))
