-- Checks one after the other: what is known where none refuses, the refusal that is given, and the first number that is so.
-- Assumes nothing.
use mathlib.Core.Path.{◌≡◌, refl, sym, ap, ◌∙◌}
use mathlib.Core.Logic.{◌↔◌}
use mathlib.Core.Bool.{Bool, true, false, cond}
use mathlib.Core.Option.{Option, none, some}
use mathlib.Core.List.{List, [], ◌∷◌, ◌++◌}
use Prim.Native.Nat.{ℕ, zero, suc, ◌+◌, ◌≤◌, ◌<◌}
use native.Mathlib.Decide.{dec_lt}
use native.Mathlib.Omega.{arith}
use lib.ListN.{get_or}
use Rattle.laws.proofs.Tests.{never}
use Rattle.tables.specs.declared.refusal.Refusal.{Refusal}
use Rattle.checks.specs.Checks.{when, first_from, found, or_else, first_refusal}

-- ---- two checks

-- neither of two refuses
pub none_else : (o p : Option Refusal) → or_else o p ≡ none → (o ≡ none) × (p ≡ none)
none_else (some r) p e = never cc
none_else none p e = (refl, e)

-- and two that refuse nothing refuse nothing together
pub else_none : (o p : Option Refusal) → o ≡ none → p ≡ none → or_else o p ≡ none
else_none none p e f = f
else_none (some r) p e f = never cc

-- with nothing after it a check stands alone
pub else_nothing : (o : Option Refusal) → or_else o none ≡ o
else_nothing none = refl
else_nothing (some r) = refl

-- a test that refuses nothing does not hold
pub none_when : (t : Bool) (r : Refusal) → when t r ≡ none → t ≡ false
none_when true r e = never cc
none_when false r e = refl

-- ---- a list of checks

-- every check of a list passes
abbrev pub AllPass : List (Option Refusal) → Type 0
AllPass [] = Unit {0}
AllPass (o ∷ l) = (o ≡ none) × AllPass l

-- where a list of checks gives no refusal, every check passes
pub all_pass : (l : List (Option Refusal)) → first_refusal l ≡ none → AllPass l
all_pass [] e = tt
all_pass (o ∷ l) e = let h = none_else o (first_refusal l) e in (h.0, all_pass l h.1)

-- the checks of two lists
pub first_append : (l m : List (Option Refusal)) → first_refusal (l ++ m) ≡ or_else (first_refusal l) (first_refusal m)
first_append [] m = refl
first_append (none ∷ l) m = first_append l m
first_append (some r ∷ l) m = refl

-- a stage that ended as the checks of l do, and one more test
pub one_more : (l : List (Option Refusal)) (r : Refusal) (b : Bool) {o o' : Option Refusal} {b' : Bool} → o ≡ first_refusal l →
    o' ≡ or_else o (when b r) → b ≡ b' → o' ≡ first_refusal (l ++ (when b' r ∷ []))
one_more l r b {o} {o'} {b'} h e f =
    e ∙ ap (λ x. or_else x (when b r)) h ∙ ap (λ t. or_else (first_refusal l) (when t r)) f
    ∙ ap (or_else (first_refusal l)) (sym (else_nothing (when b' r))) ∙ sym (first_append l (when b' r ∷ []))

-- ---- the refusal that is given is the first

-- r is the first refusal of some checks: the check of this index refuses with r, and every one before it passes
pub record FirstOf (checks : List (Option Refusal)) (r : Refusal) : Type 0 where
  pub index : ℕ
  pub here : get_or checks index none ≡ some r
  pub before : (i : ℕ) → i < index → get_or checks i none ≡ none

-- it is the only one, and so is its index
pub first_once : (checks : List (Option Refusal)) (r r' : Refusal) (p : FirstOf checks r) (q : FirstOf checks r') → (p.index ≡ q.index) × (r ≡ r')
first_once checks r r' p q =
    let e : p.index ≡ q.index = of (dec_lt p.index q.index) (dec_lt q.index p.index) in
    let g : some r ≡ some r' = sym p.here ∙ ap (λ (i : ℕ). get_or checks i none) e ∙ q.here in
    (e, cc)
  where
    -- a check does not both pass and refuse
    not_both : {o : Option Refusal} {s : Refusal} → o ≡ some s → o ≡ none → ⊥
    not_both e g = never cc

    of : Dec (p.index < q.index) → Dec (q.index < p.index) → p.index ≡ q.index
    of (yes l) d = absurd (not_both p.here (q.before p.index l))
    of (no l) (yes m) = absurd (not_both q.here (p.before q.index m))
    of (no l) (no m) = omega arith

-- a list of checks gives a refusal if and only if it is the first of theirs
pub first_is : (l : List (Option Refusal)) (r : Refusal) → (first_refusal l ≡ some r) ↔ FirstOf l r
first_is l r = (to l, λ f. from l f.index f.here f.before)
  where
    -- behind a check that passes, the first is one later
    behind : (l : List (Option Refusal)) → FirstOf l r → FirstOf (none ∷ l) r
    behind l f = record { index = suc f.index; here = f.here; before = each }
      where
        each : (i : ℕ) → i < suc f.index → get_or (none ∷ l) i none ≡ none
        each zero g = refl
        each (suc i) g = f.before i (omega arith)

    to : (l : List (Option Refusal)) → first_refusal l ≡ some r → FirstOf l r
    to [] e = never cc
    to (none ∷ l) e = behind l (to l e)
    to (some s ∷ l) e = record { index = 0; here = e; before = λ i g. absurd (omega arith) }

    from : (l : List (Option Refusal)) (k : ℕ) → get_or l k none ≡ some r → ((i : ℕ) → i < k → get_or l i none ≡ none) → first_refusal l ≡ some r
    from [] k e b = never cc
    from (none ∷ l) zero e b = never cc
    from (none ∷ l) (suc k) e b = from l k e (λ i g. b (suc i) (omega arith))
    from (some s ∷ l) zero e b = e
    from (some s ∷ l) (suc k) e b = let c : some s ≡ none = b 0 (omega arith) in never cc

-- ---- the first number that is so

-- where nothing is refused for what is found, nothing is found
pub none_found : (r : ℕ → Refusal) (o : Option ℕ) → found r o ≡ none → o ≡ none
none_found r none e = refl
none_found r (some j) e = never cc

-- the first is not so, and nothing is found later
not_first : (t : Bool) (j : ℕ) (o : Option ℕ) → cond t (some j) o ≡ none → (t ≡ false) × (o ≡ none)
not_first true j o e = never cc
not_first false j o e = (refl, e)

-- where none of n numbers from j on is found, none is so
pub none_so : (n : ℕ) (bad : ℕ → Bool) (j : ℕ) → first_from bad j n ≡ none → (i : ℕ) → j ≤ i → i < j + n → bad i ≡ false
none_so zero bad j e i h g = absurd (omega arith)
none_so (suc n) bad j e i h g = at (none_so n bad (suc j) rest.1 i) (dec_lt j i)
  where
    rest : (bad j ≡ false) × (first_from bad (suc j) n ≡ none)
    rest = not_first (bad j) j (first_from bad (suc j) n) e

    at : (suc j ≤ i → i < suc j + n → bad i ≡ false) → Dec (j < i) → bad i ≡ false
    at later (yes l) = later l (omega arith)
    at later (no l) = let q : i ≡ j = omega arith in rw q rest.0

-- where none of n numbers from j on is so, none is found
pub none_first : (n : ℕ) (bad : ℕ → Bool) (j : ℕ) → ((i : ℕ) → j ≤ i → i < j + n → bad i ≡ false) → first_from bad j n ≡ none
none_first zero bad j h = refl
none_first (suc n) bad j h =
    rw (h j (omega arith) (omega arith)) (none_first n bad (suc j) (λ i l g. h i (omega arith) (omega arith)))

-- the first that is so, where none before it is
pub first_found : (bad : ℕ → Bool) (j k n : ℕ) → ((i : ℕ) → i < k → bad (j + i) ≡ false) → k < n → bad (j + k) ≡ true
    → first_from bad j n ≡ some (j + k)
first_found bad j k zero none_before h e = absurd (omega arith)
first_found bad j zero (suc n) none_before h e =
    let z : j + 0 ≡ j = omega arith in
    let t : bad j ≡ true = rw z at e in
    rw (t, z) refl
first_found bad j (suc k) (suc n) none_before h e =
    let z : j + 0 ≡ j = omega arith in
    let s : j + suc k ≡ suc j + k = omega arith in
    let f : bad j ≡ false = rw z at (none_before 0 (omega arith)) in
    rw (f, s)
    (first_found bad (suc j) k n
    (λ i l. let p : suc j + i ≡ j + suc i = omega arith in rw p (none_before (suc i) (omega arith)))
    (omega arith) (rw s at e))
