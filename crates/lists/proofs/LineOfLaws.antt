-- An exported line, read again. Assumes nothing.
use mathlib.Core.Path.{◌≡◌, refl, sym, ap, ◌∙◌}
use mathlib.Core.Logic.{◌≢◌}
use mathlib.Core.Bool.{Bool, true, false, cond, ◌&&◌}
use mathlib.Core.Option.{none, some}
use mathlib.Core.List.{List, [], ◌∷◌, ◌++◌, append_assoc, append-nil}
use Prim.Native.Nat.{ℕ, ◌+◌, ◌<◌}
use native.Mathlib.Omega.{arith}
use lib.Dec.{eqb}
use lib.ListN.{length, get_or, take, drop, length-append}
use lib.Seq.{take-append_seam, drop-append-add}
use borrow.Author.Tests.{ne_eqb, eqb-true, eqb-false}
use Rattle.laws.proofs.Tests.{both}
use Rattle.reading.specs.Text.{digit}
use Rattle.lines.specs.Text.{line_end, line, after, lines, joined, fields, content, all_digits, number}
use Rattle.lines.specs.Said.{previous, says_of}
use Rattle.lines.specs.Parts.{LineEnds}
use Rattle.lines.proofs.LineLaws.{lines_go_on}
use Rattle.reading.proofs.WordLaws.{digit_bounds}
use Rattle.lines.proofs.SaidLaws.{five_read, previous_zero, previous_later}
use Rattle.exports.specs.declared.place.Place.{Place}
use Rattle.exports.specs.Export.{decimal, previous_field, line_text, export_line}
use Rattle.exports.proofs.LineLaws.{previous_none, previous_some}
use Rattle.lists.specs.Shown.{said_at}
use Rattle.lists.proofs.DecimalLaws.{decimal_writes, number_decimal, content_decimal}

-- ---- lists without a byte

abbrev pub Free : ℕ → List ℕ → Type 0
Free x [] = Unit {0}
Free x (c ∷ l) = (c ≢ x) × Free x l

pub free_append : (x : ℕ) (l m : List ℕ) → Free x l → Free x m → Free x (l ++ m)
free_append x [] m f g = g
free_append x (c ∷ l) m f g = (f.0, free_append x l m f.1 g)

-- digits are without any other byte
pub free_digits : (x : ℕ) → x < 48 → (l : List ℕ) → all_digits l ≡ true → Free x l
free_digits x h [] e = tt
free_digits x h (c ∷ l) e =
    let b = both (digit c) (all_digits l) e in
    ((λ z. omega (arith, (digit_bounds c b.0).0, z)), free_digits x h l b.1)

-- ---- a line end

line_through : (l m : List ℕ) → Free 13 l → line (l ++ m) ≡ l ++ line m
line_through [] m f = refl
line_through (c ∷ l) m f =
    let n : line_end (c ∷ (l ++ m)) ≡ false = ap (λ (b : Bool). b && eqb (get_or (l ++ m) 0 0) 10) (ne_eqb c 13 f.0) in
    ap (λ (b : Bool). cond b [] (c ∷ line (l ++ m))) n ∙ ap (λ (t : List ℕ). c ∷ t) (line_through l m f.1)

after_through : (l m : List ℕ) → Free 13 l → after (l ++ m) ≡ after m
after_through [] m f = refl
after_through (c ∷ l) m f =
    let n : line_end (c ∷ (l ++ m)) ≡ false = ap (λ (b : Bool). b && eqb (get_or (l ++ m) 0 0) 10) (ne_eqb c 13 f.0) in
    ap (λ (b : Bool). cond b (drop 1 (l ++ m)) (after (l ++ m))) n ∙ after_through l m f.1

-- a line and its end, and the lines behind it
pub lines_line : (l rest : List ℕ) → Free 13 l → lines ((l ++ (13 ∷ 10 ∷ [])) ++ rest) ≡ l ∷ lines rest
lines_line l rest f =
    let m : List ℕ = 13 ∷ 10 ∷ rest in
    let text : List ℕ = l ++ m in
    let e : take (length l) text ≡ l = take-append_seam l m in
    let d : drop (length l + 2) text ≡ rest = drop-append-add l m 2 in
    let ends : LineEnds text 0 (length l) = record {
      order = omega arith;
      inside = omega (arith, length-append l m);
      is_line = line_through l m f ∙ append-nil l ∙ sym e;
      is_after = after_through l m f ∙ sym d;
    } in
    ap lines (append_assoc l (13 ∷ 10 ∷ []) rest)
    ∙ lines_go_on {text = text} {at = 0} {end = length l} (omega (arith, length-append l m)) ends
    ∙ ap (λ (t : List ℕ). t ∷ lines (drop (length l + 2) text)) e ∙ ap (λ (t : List ℕ). l ∷ lines t) d

-- ---- fields

first_field : (f l : List ℕ) → Free 44 f → fields (f ++ (44 ∷ l)) ≡ f ∷ fields l
first_field [] l h = refl
first_field (c ∷ f) l h =
    ap (λ (b : Bool). cond b ([] ∷ fields (f ++ (44 ∷ l))) (joined c (fields (f ++ (44 ∷ l))))) (ne_eqb c 44 h.0)
    ∙ ap (joined c) (first_field f l h.1)

only_field : (f : List ℕ) → Free 44 f → fields f ≡ f ∷ []
only_field [] h = refl
only_field (c ∷ f) h =
    ap (λ (b : Bool). cond b ([] ∷ fields f) (joined c (fields f))) (ne_eqb c 44 h.0) ∙ ap (joined c) (only_field f h.1)

five_fields : (a b c d e : List ℕ) → Free 44 a → Free 44 b → Free 44 c → Free 44 d → Free 44 e →
    fields (a ++ (44 ∷ b ++ (44 ∷ c ++ (44 ∷ d ++ (44 ∷ e))))) ≡ a ∷ b ∷ c ∷ d ∷ e ∷ []
five_fields a b c d e f g h i j =
    first_field a (b ++ (44 ∷ c ++ (44 ∷ d ++ (44 ∷ e)))) f
    ∙ ap (λ (l : List (List ℕ)). a ∷ l) (first_field b (c ++ (44 ∷ d ++ (44 ∷ e))) g
    ∙ ap (λ (l : List (List ℕ)). b ∷ l) (first_field c (d ++ (44 ∷ e)) h
    ∙ ap (λ (l : List (List ℕ)). c ∷ l) (first_field d e i
    ∙ ap (λ (l : List (List ℕ)). d ∷ l) (only_field e j))))

-- ---- an exported line

-- numbers of at most seven digits
pub record Sized (p : Place) (rate distortion : ℕ) : Type 0 where
  pub scan : p.scan < 10000000
  pub previous : p.previous < 10000000
  pub setting : p.setting < 10000000
  pub rate_small : rate < 10000000
  pub distortion_small : distortion < 10000000

decimal_free : (x : ℕ) → x < 48 → (y : ℕ) → Free x (decimal y)
decimal_free x h y = free_digits x h (decimal y) (decimal_writes y).digits

content_empty : content [] ≡ []
unfolding content
content_empty = refl

-- the previous field, and what it says
pub record Previous (p : Place) : Type 0 where
  pub free : (x : ℕ) → x < 48 → Free x (previous_field p)
  pub says : previous p.scan (content (previous_field p)) ≡ some (cond (eqb p.scan 0) 0 p.previous)

previous_is : (p : Place) → p.previous < 10000000 → Previous p
previous_is p h = of (eqb p.scan 0) refl
  where
    of : (b : Bool) → eqb p.scan 0 ≡ b → Previous p
    of true e =
        let z = eqb-true p.scan 0 e in
        let f = previous_none p z in
        record {
          free = λ x l. rw f tt;
          says = previous_zero p.scan (content (previous_field p)) z ∙ ap (λ (l : List ℕ). cond (eqb (length (content l)) 0) (some 0) none) f
              ∙ ap (λ (l : List ℕ). cond (eqb (length l) 0) (some 0) none) content_empty ∙ ap (λ (b : Bool). some (cond b 0 p.previous)) (sym e);
        }
    of false e =
        let z = eqb-false p.scan 0 e in
        let f = previous_some p z in
        record {
          free = λ x l. rw f (decimal_free x l p.previous);
          says = previous_later p.scan (content (previous_field p)) z ∙ ap (λ (l : List ℕ). number (content l)) f
              ∙ ap number (content_decimal p.previous) ∙ number_decimal p.previous h ∙ ap (λ (b : Bool). some (cond b 0 p.previous)) (sym e);
        }

line_free : {p : Place} {rate distortion : ℕ} → Sized p rate distortion → Free 13 (line_text p rate distortion)
line_free {p} {rate} {distortion} s =
    let h : 13 < 48 = omega arith in
    let c : ◌≢◌ {A = ℕ} 44 13 = λ z. omega arith in
    let fourth = decimal rate ++ (44 ∷ decimal distortion) in
    let third = decimal p.setting ++ (44 ∷ fourth) in
    let second = previous_field p ++ (44 ∷ third) in
    free_append 13 (decimal p.scan) (44 ∷ second) (decimal_free 13 h p.scan) (
      c,
      free_append 13 (previous_field p) (44 ∷ third) ((previous_is p s.previous).free 13 h) (
        c,
        free_append 13 (decimal p.setting) (44 ∷ fourth) (decimal_free 13 h p.setting) (
          c,
          free_append 13 (decimal rate) (44 ∷ decimal distortion) (decimal_free 13 h rate)
              (c, decimal_free 13 h distortion),
        ),
      ),
    )

-- it is one line
pub lines_export : {p : Place} {rate distortion : ℕ} → Sized p rate distortion → (rest : List ℕ) →
    lines (export_line p rate distortion ++ rest) ≡ line_text p rate distortion ∷ lines rest
unfolding export_line
lines_export {p} {rate} {distortion} s rest = lines_line (line_text p rate distortion) rest (line_free s)

read_decimal : (x : ℕ) → x < 10000000 → number (content (decimal x)) ≡ some x
read_decimal x h = ap number (content_decimal x) ∙ number_decimal x h

-- and it says what was exported
pub line_says : {p : Place} {rate distortion : ℕ} → Sized p rate distortion → says_of (line_text p rate distortion) ≡ some (said_at p rate distortion)
line_says {p} {rate} {distortion} s =
    let h : 44 < 48 = omega arith in
    let before = previous_is p s.previous in
    sym (five_read (line_text p rate distortion)
    (five_fields (decimal p.scan) (previous_field p) (decimal p.setting) (decimal rate) (decimal distortion)
    (decimal_free 44 h p.scan) (before.free 44 h) (decimal_free 44 h p.setting) (decimal_free 44 h rate)
    (decimal_free 44 h distortion))
    (sym (read_decimal p.scan s.scan)) (sym before.says) (sym (read_decimal p.setting s.setting)) (sym (read_decimal rate s.rate_small))
    (sym (read_decimal distortion s.distortion_small)))
