-- The content of a field, and the number that it writes. Assumes nothing.
use mathlib.Core.Path.{◌≡◌, refl, sym, ap, ◌∙◌}
use mathlib.Core.Logic.{◌≢◌}
use mathlib.Core.Bool.{Bool, true, false, cond, ◌&&◌}
use mathlib.Core.Option.{none, some}
use mathlib.Core.List.{List, [], ◌∷◌, ◌++◌}
use Prim.Native.Nat.{ℕ, zero, suc, ◌+◌, ◌*◌, ◌-◌, ◌≤◌, ◌<◌}
use native.Mathlib.Omega.{arith}
use lib.Dec.{eqb, leb}
use lib.ListN.{length, get_or, take, drop}
use lib.Seq.{slice, length-slice, take-take, drop-drop}
use borrow.Author.Tests.{ne_eqb, lt-leb, le-leb, leb-true}
use Rattle.std.proofs.lemmas.List.{drop-take}
use Rattle.laws.proofs.Tests.{both}
use Rattle.reading.specs.Text.{digit}
use Rattle.reading.proofs.WordLaws.{digit_bounds}
use Rattle.lines.proofs.LineLaws.{no_second}
use Rattle.lines.specs.Text.{quoted, content, all_digits, value_from, number}

-- a field that does not begin with a quote has none
pub no_quote : (f : List ℕ) → get_or f 0 0 ≢ 34 → quoted f ≡ false
no_quote f n =
    no_second (leb 2 (length f)) _ (ap (λ (b : Bool). b && eqb (get_or f (length f - 1) 0) 34) (ne_eqb (get_or f 0 0) 34 n))

-- one with quotes has at least two bytes
pub quoted_long : (f : List ℕ) → quoted f ≡ true → 2 ≤ length f
quoted_long f e = leb-true 2 (length f) (both (leb 2 (length f)) _ e).0

-- its content
pub content_plain : (f : List ℕ) → quoted f ≡ false → f ≡ content f
unfolding content
content_plain f e = sym (ap (λ (b : Bool). cond b (take (length f - 2) (drop 1 f)) f) e)

pub content_quoted : (from to : ℕ) (text : List ℕ) → to ≤ length text → quoted (slice from to text) ≡ true →
    slice (from + 1) (to - 1) text ≡ content (slice from to text)
unfolding content
content_quoted from to text within e =
    let f = slice from to text in
    let h = quoted_long f e in
    let long = length-slice from to text within in
    let p : from + 1 + (length f - 2) ≡ to - 1 = omega (arith, long, h) in
    sym (ap (λ (b : Bool). cond b (take (length f - 2) (drop 1 f)) f) e
    ∙ ap (take (length f - 2)) (drop-drop 1 from (take to text))
    ∙ sym (drop-take (from + 1) (length f - 2) (take to text))
    ∙ ap (λ (k : ℕ). drop (from + 1) (take k (take to text))) p
    ∙ ap (drop (from + 1)) (take-take (to - 1) to text (omega arith)))

-- no number where there is no byte, or more than seven
pub number_none : (c : List ℕ) → length c ≡ 0 → none ≡ number c
unfolding number
number_none c h =
    sym (ap (λ (b : Bool). cond (b && (leb (length c) 7 && all_digits c)) (some (value_from 0 c)) none) (lt-leb 1 (length c) (omega arith)))

pub number_long : (c : List ℕ) → 7 < length c → none ≡ number c
unfolding number
number_long c h =
    sym (ap (λ (b : Bool). cond b (some (value_from 0 c)) none) (no_second (leb 1 (length c)) _ (ap (λ (b : Bool). b && all_digits c) (lt-leb (length c) 7 h))))

-- digits, and the number that they write
pub record Writes (c : List ℕ) (v : ℕ) : Type 0 where
  pub digits : all_digits c ≡ true
  pub value : value_from 0 c ≡ v

-- digits behind digits
digits_append : (c d : List ℕ) → all_digits (c ++ d) ≡ (all_digits c && all_digits d)
digits_append [] d = refl
digits_append (x ∷ c) d = ap (λ (b : Bool). digit x && b) (digits_append c d) ∙ and_assoc (digit x) (all_digits c) (all_digits d)
  where
    and_assoc : (a b e : Bool) → (a && (b && e)) ≡ ((a && b) && e)
    and_assoc true b e = refl
    and_assoc false b e = refl

value_append : (v : ℕ) (c d : List ℕ) → value_from v (c ++ d) ≡ value_from (value_from v c) d
value_append v [] d = refl
value_append v (x ∷ c) d = value_append (10 * v + (x - 48)) c d

pub writes_more : {c : List ℕ} {v : ℕ} (x : ℕ) → Writes c v → digit x ≡ true → Writes (c ++ (x ∷ [])) (10 * v + (x - 48))
writes_more {c} x w e = record {
  digits = digits_append c (x ∷ []) ∙ ap (λ (b : Bool). b && (digit x && true)) w.digits ∙ ap (λ (b : Bool). b && true) e;
  value = value_append 0 c (x ∷ []) ∙ ap (λ (n : ℕ). 10 * n + (x - 48)) w.value;
}

-- a byte that is no digit
pub no_digit : (c : List ℕ) (i : ℕ) → i < length c → digit (get_or c i 0) ≡ false → none ≡ number c
unfolding number
no_digit c i h e =
    sym (ap (λ (b : Bool). cond b (some (value_from 0 c)) none) (no_second (leb 1 (length c)) _ (no_second (leb (length c) 7) _ (here c i h e))))
  where
    here : (c : List ℕ) (i : ℕ) → i < length c → digit (get_or c i 0) ≡ false → all_digits c ≡ false
    here [] i h e = absurd (omega arith)
    here (x ∷ c) zero h e = ap (λ (b : Bool). b && all_digits c) e
    here (x ∷ c) (suc i) h e = no_second (digit x) _ (here c i (omega arith) e)

-- one to seven
pub written : {c : List ℕ} {v : ℕ} → Writes c v → length c ≢ 0 → length c ≤ 7 → some v ≡ number c
unfolding number
written {c} w h g =
    sym (ap (λ (b : Bool). cond (b && (leb (length c) 7 && all_digits c)) (some (value_from 0 c)) none) (le-leb 1 (length c) (omega arith))
    ∙ ap (λ (b : Bool). cond (b && all_digits c) (some (value_from 0 c)) none) (le-leb (length c) 7 g)
    ∙ ap (λ (b : Bool). cond b (some (value_from 0 c)) none) w.digits
    ∙ ap some w.value)

-- the most that k digits write behind v
abbrev most : ℕ → ℕ → ℕ
most v zero = v
most v (suc k) = most (10 * v + 9) k

most_grows : (k : ℕ) {v w : ℕ} → v ≤ w → most v k ≤ most w k
most_grows zero h = h
most_grows (suc k) h = most_grows k (omega arith)

at_most : (c : List ℕ) (v : ℕ) → all_digits c ≡ true → value_from v c ≤ most v (length c)
at_most [] v e = omega arith
at_most (x ∷ c) v e =
    let b = both (digit x) (all_digits c) e in
    let d = digit_bounds x b.0 in
    let g : most (10 * v + (x - 48)) (length c) ≤ most (10 * v + 9) (length c) = most_grows (length c) (omega arith) in
    let r = at_most c (10 * v + (x - 48)) b.1 in
    omega (arith, g, r)

most_more : (j k : ℕ) → most 0 k ≤ most 0 (j + k)
most_more zero k = let z : 0 + k ≡ k = omega arith in let e : most 0 (0 + k) ≡ most 0 k = ap (most 0) z in omega (arith, e)
most_more (suc j) k =
    let p : suc j + k ≡ suc (j + k) = omega arith in
    let e : most 0 (suc j + k) ≡ most 9 (j + k) = ap (most 0) p in
    let g : most 0 (j + k) ≤ most 9 (j + k) = most_grows (j + k) (omega arith) in
    omega (arith, e, g, most_more j k)

-- seven digits write less than ten million
pub writes_small : {c : List ℕ} {v : ℕ} → Writes c v → length c ≤ 7 → v ≤ 9999999
writes_small {c} w h =
    let p : (7 - length c) + length c ≡ 7 = omega arith in
    let e : most 0 ((7 - length c) + length c) ≡ 9999999 = ap (most 0) p in
    omega (arith, e, most_more (7 - length c) (length c), at_most c 0 w.digits, w.value)
