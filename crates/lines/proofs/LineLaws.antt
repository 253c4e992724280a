-- Lines of a text, byte after byte. Assumes nothing.
use mathlib.Core.Path.{◌≡◌, refl, sym, ap, ◌∙◌}
use mathlib.Core.Bool.{Bool, true, false, cond, ◌&&◌}
use mathlib.Core.List.{List, [], ◌∷◌, ◌++◌, append-nil, append_assoc}
use Prim.Native.Nat.{ℕ, zero, suc, ◌+◌, ◌-◌, ◌≤◌, ◌<◌}
use native.Mathlib.Omega.{arith}
use lib.Dec.{eqb}
use lib.ListN.{length, get_or, take, drop, drop_of_length-le, length-drop}
use lib.Seq.{slice, slice_empty, drop-cons, take-suc, length-take-le, drop-append-le, get_or-drop, get_or-take, drop-drop}
use Rattle.std.proofs.lemmas.List.{drop-take}
use Rattle.lines.specs.Text.{line_end, line, after, lines_of, lines}
use Rattle.lines.specs.Parts.{LineEnds}

-- a part, as it is borrowed
pub part : (text : List ℕ) (from to : ℕ) → from ≤ to → take (to - from) (drop from text) ≡ slice from to text
part text from to h = let p : from + (to - from) ≡ to = omega arith in sym (drop-take from (to - from) text) ∙ ap (λ (n : ℕ). drop from (take n text)) p

-- a byte of a part
pub get_or_slice : (from to : ℕ) (text : List ℕ) (i : ℕ) → from + i < to → get_or (slice from to text) i 0 ≡ get_or text (from + i) 0
get_or_slice from to text i h = get_or-drop from (take to text) i 0 ∙ get_or-take to text (from + i) 0 h

-- a part with one byte more
pub slice_snoc : (from i : ℕ) (text : List ℕ) → from ≤ i → i < length text → slice from (suc i) text ≡ slice from i text ++ (get_or text i 0 ∷ [])
slice_snoc from i text h g =
    ap (λ (l : List ℕ). drop from l) (take-suc text i 0 g)
    ∙ drop-append-le from (take i text) (get_or text i 0 ∷ []) (omega (arith, length-take-le i text (omega arith)))

-- two tests, of which the second does not hold
pub no_second : (a b : Bool) → b ≡ false → (a && b) ≡ false
no_second true b e = e
no_second false b e = refl

-- a line end by its two bytes
pub by_bytes : (text : List ℕ) (i : ℕ) → (eqb (get_or text i 0) 13 && eqb (get_or text (i + 1) 0) 10) ≡ line_end (drop i text)
by_bytes text i =
    let z : i + 0 ≡ i = omega arith in
    sym (ap (λ (x : ℕ). eqb x 13 && eqb (get_or (drop i text) 1 0) 10) (get_or-drop i text 0 0 ∙ ap (λ (k : ℕ). get_or text k 0) z)
    ∙ ap (λ (x : ℕ). eqb (get_or text i 0) 13 && eqb x 10) (get_or-drop i text 1 0))

-- what is known at place i of a line that starts at `from`, and has not ended before i
pub record LineSoFar (text : List ℕ) (from i : ℕ) : Type 0 where
  pub order : from ≤ i
  pub inside : i ≤ length text
  pub is_line : line (drop from text) ≡ slice from i text ++ line (drop i text)
  pub is_after : after (drop from text) ≡ after (drop i text)

pub line_starts : (text : List ℕ) (from : ℕ) → from ≤ length text → LineSoFar text from from
line_starts text from h = record {
  order = omega arith;
  inside = h;
  is_line = sym (ap (λ (l : List ℕ). l ++ line (drop from text)) (slice_empty from text));
  is_after = refl;
}

-- .. it goes on
pub line_goes_on : {text : List ℕ} {from i : ℕ} → LineSoFar text from i → i < length text → line_end (drop i text) ≡ false → LineSoFar text from (suc i)
line_goes_on {text} {from} {i} s h e =
    let d = drop-cons text i 0 h in
    let c = get_or text i 0 in
    let rest = drop (suc i) text in
    let n : line_end (c ∷ rest) ≡ false = sym (ap line_end d) ∙ e in
    let l : line (drop i text) ≡ c ∷ line rest = ap line d ∙ ap (λ (b : Bool). cond b [] (c ∷ line rest)) n in
    let a : after (drop i text) ≡ after rest = ap after d ∙ ap (λ (b : Bool). cond b (drop 1 rest) (after rest)) n in
    record {
      order = omega (arith, s.order);
      inside = h;
      is_line = s.is_line ∙ ap (λ (x : List ℕ). slice from i text ++ x) l ∙ sym (append_assoc (slice from i text) (c ∷ []) (line rest))
          ∙ ap (λ (x : List ℕ). x ++ line rest) (sym (slice_snoc from i text s.order h));
      is_after = s.is_after ∙ a;
    }

-- .. and ends, at a line end
pub line_ends : {text : List ℕ} {from i : ℕ} → LineSoFar text from i → i < length text → line_end (drop i text) ≡ true → LineEnds text from i
line_ends {text} {from} {i} s h e =
    let d = drop-cons text i 0 h in
    let c = get_or text i 0 in
    let rest = drop (suc i) text in
    let n : line_end (c ∷ rest) ≡ true = sym (ap line_end d) ∙ e in
    let l : line (drop i text) ≡ [] = ap line d ∙ ap (λ (b : Bool). cond b [] (c ∷ line rest)) n in
    let a : after (drop i text) ≡ drop 1 rest = ap after d ∙ ap (λ (b : Bool). cond b (drop 1 rest) (after rest)) n in
    let p : suc i + 1 ≡ i + 2 = omega arith in
    record {
      order = s.order;
      inside = s.inside;
      is_line = s.is_line ∙ ap (λ (x : List ℕ). slice from i text ++ x) l ∙ append-nil (slice from i text);
      is_after = s.is_after ∙ a ∙ drop-drop 1 (suc i) text ∙ ap (λ (k : ℕ). drop k text) p;
    }

-- .. or with the text
pub text_ends : {text : List ℕ} {from i : ℕ} → LineSoFar text from i → length text ≤ i → LineEnds text from i
text_ends {text} {from} {i} s h =
    let d = drop_of_length-le text h in
    record {
      order = s.order;
      inside = s.inside;
      is_line = s.is_line ∙ ap (λ (x : List ℕ). slice from i text ++ line x) d ∙ append-nil (slice from i text);
      is_after = s.is_after ∙ ap after d ∙ sym (drop_of_length-le text {i = i + 2} (omega arith));
    }

-- what follows a line is shorter
after_shorter : (t : List ℕ) → length (after t) ≤ length t
after_shorter [] = omega arith
after_shorter (c ∷ t) = of (line_end (c ∷ t)) (after_shorter t)
  where
    of : (b : Bool) → length (after t) ≤ length t → length (cond b (drop 1 t) (after t)) ≤ suc (length t)
    of true h = omega (arith, length-drop 1 t)
    of false h = omega (arith, h)

after_shorter_yet : (c : ℕ) (t : List ℕ) → length (after (c ∷ t)) ≤ length t
after_shorter_yet c t = of (line_end (c ∷ t)) (after_shorter t)
  where
    of : (b : Bool) → length (after t) ≤ length t → length (cond b (drop 1 t) (after t)) ≤ length t
    of true h = omega (arith, length-drop 1 t)
    of false h = h

-- there are no more lines than bytes
enough : (b k : ℕ) (t : List ℕ) → k ≤ b → length t ≤ k → lines_of k t ≡ lines_of (length t) t
enough zero zero [] h g = refl
enough zero zero (c ∷ t) h g = absurd (omega arith)
enough zero (suc k) t h g = absurd (omega arith)
enough (suc b) zero [] h g = refl
enough (suc b) zero (c ∷ t) h g = absurd (omega arith)
enough (suc b) (suc k) [] h g = refl
enough (suc b) (suc k) (c ∷ t) h g =
    let u = after (c ∷ t) in
    let s = after_shorter_yet c t in
    ap (λ (l : List (List ℕ)). line (c ∷ t) ∷ l)
    (enough b k u (omega arith) (omega (arith, s)) ∙ sym (enough b (length t) u (omega arith) s))

-- a text that goes on at `at` has a line there, and then those behind it
pub lines_go_on : {text : List ℕ} {at end : ℕ} → at < length text → LineEnds text at end → lines (drop at text) ≡ slice at end text ∷ lines (drop (end + 2) text)
unfolding lines
lines_go_on {text} {at} {end} h e =
    let d = drop-cons text at 0 h in
    let c = get_or text at 0 in
    let t = drop (suc at) text in
    let u = after (c ∷ t) in
    ap (λ (l : List ℕ). lines_of (length l) l) d
    ∙ ap (λ (l : List (List ℕ)). line (c ∷ t) ∷ l) (enough (length t) (length t) u (omega arith) (after_shorter_yet c t))
    ∙ ap (λ (l : List ℕ). line l ∷ lines_of (length (after l)) (after l)) (sym d)
    ∙ ap (λ (l : List ℕ). l ∷ lines_of (length (after (drop at text))) (after (drop at text))) e.is_line
    ∙ ap (λ (l : List ℕ). slice at end text ∷ lines_of (length l) l) e.is_after

-- one that ends there has none
pub no_lines : (text : List ℕ) {at : ℕ} → length text ≤ at → lines (drop at text) ≡ []
unfolding lines
no_lines text {at} h = ap (λ (l : List ℕ). lines_of (length l) l) (drop_of_length-le text h)
