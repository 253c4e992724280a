-- What a line says, by its numbers. Assumes nothing.
use mathlib.Core.Path.{◌≡◌, refl, sym, ap, ◌∙◌}
use mathlib.Core.Bool.{Bool, true, false, cond}
use Rattle.std.specs.Bool.{then_some}
use Rattle.lines.specs.Parts.{said}
use mathlib.Core.Option.{Option, none, some}
use mathlib.Core.List.{List, [], ◌∷◌}
use Prim.Native.Nat.{ℕ}
use lib.Dec.{eqb}
use lib.ListN.{length, get_or}
use borrow.Author.Tests.{eq-eqb, ne_eqb}
use Rattle.lines.specs.Text.{fields, content, number}
use Rattle.lines.specs.Said.{previous, bind, five_numbers, says_five, says_of}

-- the previous setting at scan 0, and later
pub previous_zero : (scan : ℕ) (c : List ℕ) → scan ≡ 0 → previous scan c ≡ cond (eqb (length c) 0) (some 0) none
unfolding previous
previous_zero scan c e = ap (λ (b : Bool). cond b (cond (eqb (length c) 0) (some 0) none) (number c)) (eq-eqb scan 0 e)

pub previous_later : (scan : ℕ) (c : List ℕ) → (scan ≡ 0 → ⊥) → previous scan c ≡ number c
unfolding previous
previous_later scan c e = ap (λ (b : Bool). cond b (cond (eqb (length c) 0) (some 0) none) (number c)) (ne_eqb scan 0 e)

-- a value where a test holds
pub said-then_some : {A : Type 0} (b : Bool) (x : A) → said (then_some b x) ≡ cond b (some x) none
said-then_some true x = refl
said-then_some false x = refl

-- a line of five fields says what they hold
module _ (l : List ℕ) {s p q r x : List ℕ} (five : fields l ≡ s ∷ p ∷ q ∷ r ∷ x ∷ []) where
  five_say : says_five (content s) (content p) (content q) (content r) (content x) ≡ says_of l
  unfolding says_of
  five_say =
      sym (ap (λ (fs : List (List ℕ)). cond (eqb (length fs) 5) (says_five (content (get_or fs 0 [])) (content (get_or fs 1 [])) (content (get_or fs 2 []))
      (content (get_or fs 3 [])) (content (get_or fs 4 []))) none) five)

  -- nothing where the first is no number
  pub no_scan : none ≡ number (content s) → none ≡ says_of l
  no_scan h =
      ap (λ (o : Option ℕ). bind o (λ scan. five_numbers (some scan) (previous scan (content p)) (number (content q)) (number (content r)) (number (content x)))) h
      ∙ five_say

  -- otherwise by what the others are
  pub five_read : {scan : ℕ} {n₂ n₃ n₄ n₅ : Option ℕ} → some scan ≡ number (content s) → n₂ ≡ previous scan (content p) → n₃ ≡ number (content q) →
      n₄ ≡ number (content r) → n₅ ≡ number (content x) → five_numbers (some scan) n₂ n₃ n₄ n₅ ≡ says_of l
  five_read {scan} h₁ h₂ h₃ h₄ h₅ =
      (λ i. five_numbers (some scan) (h₂ i) (h₃ i) (h₄ i) (h₅ i))
      ∙ ap (λ (o : Option ℕ). bind o (λ scan. five_numbers (some scan) (previous scan (content p)) (number (content q)) (number (content r)) (number (content x)))) h₁
      ∙ five_say

-- and any other line nothing
pub other_says : (l : List ℕ) → (length (fields l) ≡ 5 → ⊥) → none ≡ says_of l
unfolding says_of
other_says l n =
    sym (ap (λ (b : Bool). cond b (says_five (content (get_or (fields l) 0 [])) (content (get_or (fields l) 1 [])) (content (get_or (fields l) 2 []))
    (content (get_or (fields l) 3 [])) (content (get_or (fields l) 4 []))) none) (ne_eqb (length (fields l)) 5 n))
