-- A plain line: where it ends, its fields, and what it says. Assumes nothing.
use mathlib.Core.Path.{◌≡◌, sym, ap, ◌∙◌}
use mathlib.Core.Logic.{◌≢◌, ◌⊎◌, inl, inr}
use mathlib.Core.Bool.{Bool, true, false, cond, ◌&&◌}
use mathlib.Core.Option.{some, none}
use mathlib.Core.List.{List}
use Prim.Native.Nat.{ℕ, zero, suc, ◌+◌, ◌-◌, ◌≤◌, ◌<◌}
use native.Mathlib.Numerals.{add-one}
use native.Mathlib.Omega.{arith}
use lib.Dec.{eqb}
use lib.ListN.{length, get_or, drop, get_or-eq_default}
use lib.Seq.{slice, slice_empty, length-slice}
use borrow.Author.Tests.{ne_eqb}
use Rattle.laws.proofs.Tests.{cases, never}
use Rattle.reading.proofs.WordLaws.{digit_bounds}
use Rattle.lines.specs.Text.{line_end, content, number}
use Rattle.lines.specs.Said.{previous, says_of}
use Rattle.std.specs.Prelude.{Some}
use Rattle.lines.specs.Parts.{LineEnds, CommaAt, CommaFound, FiveEnds}
use Rattle.lines.proofs.LineLaws.{LineSoFar, get_or_slice, by_bytes, line_starts, line_goes_on, line_ends, text_ends}
use Rattle.lines.proofs.FieldLaws.{five_fields, fields_at}
use Rattle.lines.proofs.ContentLaws.{no_quote, content_plain}
use Rattle.lines.proofs.SaidLaws.{five_read, previous_zero, previous_later}
use Rattle.plain.specs.declared.digits.Digits.{Digits}
use Rattle.plain.specs.Parts.{Plainly, FieldAt, PreviousAt, LastAt}
use Rattle.plain.proofs.DigitLaws.{plainly_none}

-- a byte that is no CR is no line end
no_end : (text : List ℕ) (i : ℕ) → get_or text i 0 ≢ 13 → line_end (drop i text) ≡ false
no_end text i n = sym (by_bytes text i) ∙ ap (λ (b : Bool). b && eqb (get_or text (i + 1) 0) 10) (ne_eqb (get_or text i 0) 13 n)

-- a digit's bounds
bounds : {text : List ℕ} {from to : ℕ} → Plainly text from to → (i : ℕ) → from ≤ i → i < to → (48 ≤ get_or text i 0) × (get_or text i 0 ≤ 57)
bounds {text} p i a b = digit_bounds (get_or text i 0) (p.each i a b)

-- a line goes on over digits, and over a comma
over_digits : {text : List ℕ} {start i to : ℕ} (k : ℕ) → LineSoFar text start i → Plainly text i to → k + i ≤ to → LineSoFar text start (k + i)
over_digits {i = i} zero s p h = let z : i ≡ 0 + i = omega arith in rw z at s
over_digits {text} {start} {i} {to} (suc k) s p h =
    let w = p.inside in
    let q : suc (k + i) ≡ suc k + i = omega arith in
    rw q at (line_goes_on (over_digits k s p (omega arith)) (omega arith)
    (no_end text (k + i) (λ e. let b = bounds p (k + i) (omega arith) (omega arith) in omega arith)))

past_digits : {text : List ℕ} {start i to : ℕ} → LineSoFar text start i → Plainly text i to → LineSoFar text start to
past_digits {i = i} {to = to} s p = let o = p.order in let q : (to - i) + i ≡ to = omega arith in rw q at (over_digits (to - i) s p (omega arith))

past_comma : {text : List ℕ} {start i : ℕ} → LineSoFar text start i → get_or text i 0 ≡ 44 → i < length text → LineSoFar text start (i + 1)
past_comma {text} {start} {i} s c h = rw (add-one i) (line_goes_on s h (no_end text i (λ e. omega arith)))

-- digits have no quotes
plain_content : {text : List ℕ} {from to : ℕ} → Plainly text from to → slice from to text ≡ content (slice from to text)
plain_content {text} {from} {to} p = content_plain (slice from to text) (no_quote (slice from to text) (λ e. cases from to (λ h. digit_first h e) (λ h. none_first h e)))
  where
    digit_first : from < to → get_or (slice from to text) 0 0 ≢ 34
    digit_first h e =
        let z : from + 0 ≡ from = omega arith in
        let g : get_or (slice from to text) 0 0 ≡ get_or text from 0 = get_or_slice from to text 0 (omega arith) ∙ ap (λ (k : ℕ). get_or text k 0) z in
        let b = bounds p from (omega arith) h in
        omega arith

    none_first : to ≤ from → get_or (slice from to text) 0 0 ≢ 34
    none_first h e =
        let g : get_or (slice from to text) 0 0 ≡ 0 = get_or-eq_default (slice from to text) 0 (omega (arith, length-slice from to text p.inside)) in
        omega arith

-- a comma is one of the text's bytes
pub comma_inside : (text : List ℕ) {i : ℕ} → get_or text i 0 ≡ 44 → i < length text
comma_inside text {i} e = cases i (length text) (λ h. h) (λ h. absurd (let z : 0 ≡ 44 = sym (get_or-eq_default text 0 h) ∙ e in omega arith))

-- so is a line end
end_inside : (text : List ℕ) (i : ℕ) → line_end (drop i text) ≡ true → i < length text
end_inside text i e = cases i (length text) (λ h. h) (λ h. absurd (let z : false ≡ true = sym (no_end text i (λ c. let y : 0 ≡ 13 = sym (get_or-eq_default text 0 h) ∙ c in omega arith)) ∙ e in never cc))

-- digits up to a comma, and up to the end of the line
up_to_comma : {text : List ℕ} {from at end : ℕ} → Plainly text from at → at < end → get_or text at 0 ≡ 44 → CommaFound text from end (Some at)
up_to_comma p h e = (
  record {
    order = p.order;
    inside = omega arith;
    before = λ i a b q. let d = bounds p i a b in omega arith;
    there = λ _. e;
  },
  h,
)

up_to_end : {text : List ℕ} {from end : ℕ} → Plainly text from end → CommaAt text from end end
up_to_end p = record {
  order = p.order;
  inside = omega arith;
  before = λ i a b q. let d = bounds p i a b in omega arith;
  there = λ h. absurd (omega arith);
}

-- the previous field, by its scan
pub previous_numbered : {text : List ℕ} {from scan : ℕ} {d : Digits} → (scan ≡ 0 → ⊥) → FieldAt text from d → PreviousAt text from scan d
previous_numbered {text} {from} {scan} {d} n f = record {
  plainly = f.plainly;
  number_is = f.number_is ∙ sym (previous_later scan (slice from d.to text) n);
  comma = f.comma;
}

pub previous_empty : {text : List ℕ} {from scan : ℕ} → from ≤ length text → scan ≡ 0 → get_or text from 0 ≡ 44 → PreviousAt text from scan (record { value = 0; to = from })
previous_empty {text} {from} {scan} h z e = record {
  plainly = plainly_none text from h;
  number_is = sym (previous_zero scan (slice from from text) z ∙ ap (λ (l : List ℕ). cond (eqb (length l) 0) (some 0) none) (slice_empty from text));
  comma = e;
}

module _ {text : List ℕ} {at : ℕ} {scan before setting rate distortion : Digits} (first : FieldAt text at scan) (second : PreviousAt text (scan.to + 1) scan.value before)
    (third : FieldAt text (before.to + 1) setting) (fourth : FieldAt text (setting.to + 1) rate) (fifth : LastAt text (rate.to + 1) distortion) (inside : at ≤ length text) where
  abbrev end : ℕ
  end = distortion.to

  -- the line goes on up to the end of the last field
  up_to_last : LineSoFar text at end
  up_to_last =
      let a = past_comma (past_digits (line_starts text at inside) first.plainly) first.comma (comma_inside text first.comma) in
      let b = past_comma (past_digits a second.plainly) second.comma (comma_inside text second.comma) in
      let c = past_comma (past_digits b third.plainly) third.comma (comma_inside text third.comma) in
      let d = past_comma (past_digits c fourth.plainly) fourth.comma (comma_inside text fourth.comma) in
      past_digits d fifth.plainly

  -- and ends there
  pub plain_ends : LineEnds text at end
  plain_ends = of fifth.ends
    where
      of : (end ≡ length text) ⊎ (line_end (drop end text) ≡ true) → LineEnds text at end
      of (inl e) = text_ends up_to_last (omega arith)
      of (inr e) = line_ends up_to_last (end_inside text end e) e

  five : FiveEnds text at end (record { first = scan.to; second = before.to; third = setting.to; fourth = rate.to })
  five =
      let o₂ = second.plainly.order in
      let o₃ = third.plainly.order in
      let o₄ = fourth.plainly.order in
      let o₅ = fifth.plainly.order in
      five_fields fifth.plainly.inside (up_to_comma first.plainly (omega arith) first.comma) (up_to_comma second.plainly (omega arith) second.comma)
      (up_to_comma third.plainly (omega arith) third.comma) (up_to_comma fourth.plainly (omega arith) fourth.comma) (up_to_end fifth.plainly)

  pub plain_says : some (record { scan = scan.value; previous = before.value; setting = setting.value; rate = rate.value; distortion = distortion.value })
      ≡ says_of (slice at end text)
  plain_says =
      five_read (slice at end text) (fields_at five)
      (first.number_is ∙ ap number (plain_content first.plainly))
      (second.number_is ∙ ap (previous scan.value) (plain_content second.plainly))
      (third.number_is ∙ ap number (plain_content third.plainly))
      (fourth.number_is ∙ ap number (plain_content fourth.plainly))
      (fifth.number_is ∙ ap number (plain_content fifth.plainly))
