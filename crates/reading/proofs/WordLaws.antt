-- A word as it is held, and the word that stands open. Assumes nothing.
use mathlib.Core.Path.{◌≡◌, refl, ap}
use mathlib.Core.Bool.{Bool, true, cond}
use mathlib.Core.Option.{Option, none, some}
use mathlib.Core.List.{[], ◌∷◌}
use Prim.Native.Nat.{ℕ, ◌≤◌, ◌<◌}
use native.Mathlib.Omega.{arith}
use lib.Dec.{ltb, leb}
use borrow.Author.Tests.{lt-ltb, le-ltb, leb-true}
use Rattle.laws.proofs.Tests.{both}
use Rattle.reading.specs.Text.{Open, between, digits, other, most_number, digit, closed}
use Rattle.reading.specs.Fed.{Shows}
use Rattle.reading.specs.declared.Word.TheVariants.{Between, Digits, Other}

pub digit_bounds : (c : ℕ) → digit c ≡ true → (48 ≤ c) × (c ≤ 57)
digit_bounds c e =
    let h = both (leb 48 c) (leb c 57) e in
    (leb-true 48 c h.0, leb-true c 57 h.1)

pub held_between : (w : Open) → Shows Between w → w ≡ between
held_between between p = refl
held_between (digits x) p = absurd p
held_between other p = absurd p

pub held_other : (w : Open) → Shows Other w → w ≡ other
held_other between p = absurd p
held_other (digits x) p = absurd p
held_other other p = refl

-- the value not over the limit is the word's own
pub held_value : (v : ℕ) (w : Open) → v ≤ most_number → Shows (Digits v) w → w ≡ digits v
held_value v between h p = absurd p
held_value v (digits x) h p = let e : x ≡ v = omega (arith, p) in ap digits e
held_value v other h p = absurd p

-- one over the limit is of a word over the limit
pub held_over : (v : ℕ) (w : Open) → most_number < v → Shows (Digits v) w → closed w ≡ none ∷ []
held_over v between h p = absurd p
held_over v (digits x) h p =
    let g : most_number < x = omega (arith, p) in
    ap (λ (b : Bool). cond b none (some x) ∷ []) (lt-ltb most_number x g)
held_over v other h p = absurd p

-- digits alone are one word
pub held_one : (v : ℕ) (w : Open) → Shows (Digits v) w → (word : Option ℕ) × (closed w ≡ word ∷ [])
held_one v between p = absurd p
held_one v (digits x) p = (cond (ltb most_number x) none (some x), refl)
held_one v other p = absurd p

-- a number is the word that it closes as
pub closed_value : (v : ℕ) → v ≤ most_number → closed (digits v) ≡ some v ∷ []
closed_value v h = ap (λ (b : Bool). cond b none (some v) ∷ []) (le-ltb most_number v h)
