-- Digits, one after the other. Assumes nothing.
use mathlib.Core.Path.{◌≡◌, ap, subst, ◌∙◌}
use mathlib.Core.Bool.{true}
use mathlib.Core.List.{List, [], ◌∷◌}
use Prim.Native.Nat.{ℕ, zero, suc, ◌+◌, ◌-◌, ◌≤◌, ◌<◌}
use native.Mathlib.Omega.{arith}
use lib.ListN.{length, get_or}
use lib.Seq.{slice, length-slice}
use Rattle.laws.proofs.Tests.{both}
use Rattle.reading.specs.Text.{digit}
use Rattle.lines.specs.Text.{all_digits}
use Rattle.lines.proofs.LineLaws.{get_or_slice}
use Rattle.lines.proofs.ContentLaws.{Writes, written}
use Rattle.plain.specs.Parts.{Plainly, DigitsAt}

-- each of them
digit_of : (c : List ℕ) (i : ℕ) → all_digits c ≡ true → i < length c → digit (get_or c i 0) ≡ true
digit_of [] i e h = absurd (omega arith)
digit_of (x ∷ c) zero e h = (both (digit x) (all_digits c) e).0
digit_of (x ∷ c) (suc i) e h = digit_of c i (both (digit x) (all_digits c) e).1 (omega arith)

-- no digits
pub plainly_none : (text : List ℕ) (from : ℕ) → from ≤ length text → Plainly text from from
plainly_none text from h = record { order = omega arith; inside = h; each = λ i a b. absurd (omega arith) }

-- as far as they go, and at most seven
pub digits_found : (text : List ℕ) (from to : ℕ) {v : ℕ} → Writes (slice from to text) v → from ≤ to → to ≤ length text → to ≤ from + 7 →
    DigitsAt text from (record { value = v; to = to })
digits_found text from to w order inside few =
    let long = length-slice from to text inside in
    record {
      plainly = record {
        order = order;
        inside = inside;
        each = λ i a b.
            let p : from + (i - from) ≡ i = omega arith in
            subst (λ (x : ℕ). digit x ≡ true) (get_or_slice from to text (i - from) (omega arith) ∙ ap (λ (k : ℕ). get_or text k 0) p)
            (digit_of (slice from to text) (i - from) w.digits (omega (arith, long)));
      };
      number_is = λ l. written w (λ z. omega (arith, long)) (omega (arith, long));
    }
