-- The fields of a line. Assumes nothing.
use mathlib.Core.Path.{◌≡◌, refl, sym, ap, subst, ◌∙◌}
use mathlib.Core.Logic.{◌≢◌}
use mathlib.Core.Bool.{Bool, true, false, cond}
use mathlib.Core.List.{List, [], ◌∷◌}
use Prim.Native.Nat.{ℕ, zero, suc, ◌+◌, ◌-◌, ◌≤◌, ◌<◌}
use native.Mathlib.Numerals.{add-one}
use native.Mathlib.Omega.{arith}
use lib.Dec.{eqb}
use lib.ListN.{length, get_or}
use lib.Seq.{slice, slice_empty, slice-cons, length-slice}
use borrow.Author.Tests.{eq-eqb, ne_eqb}
use Rattle.lines.specs.Text.{joined, fields}
use Rattle.lines.specs.declared.ends.Ends.{Ends}
use Rattle.lines.specs.Parts.{CommaAt, CommaFound, FiveEnds}
use Rattle.lines.proofs.LineLaws.{get_or_slice}
use Rattle.std.specs.Prelude.{Some}
use Rattle.std.specs.List.{AllWithin, HoldsAt}

module _ (text : List ℕ) (end : ℕ) (within : end ≤ length text) where
  -- the first byte is a comma, or it belongs to the first field
  at_comma : (from : ℕ) → from < end → get_or text from 0 ≡ 44 → fields (slice from end text) ≡ [] ∷ fields (slice (suc from) end text)
  at_comma from h e =
      ap fields (slice-cons from end text 0 h within)
      ∙ ap (λ (b : Bool). cond b ([] ∷ fields (slice (suc from) end text)) (joined (get_or text from 0) (fields (slice (suc from) end text))))
      (eq-eqb (get_or text from 0) 44 e)

  in_field : (from : ℕ) → from < end → get_or text from 0 ≢ 44 →
      fields (slice from end text) ≡ joined (get_or text from 0) (fields (slice (suc from) end text))
  in_field from h e =
      ap fields (slice-cons from end text 0 h within)
      ∙ ap (λ (b : Bool). cond b ([] ∷ fields (slice (suc from) end text)) (joined (get_or text from 0) (fields (slice (suc from) end text))))
      (ne_eqb (get_or text from 0) 44 e)

  -- a comma k bytes on parts the first field from the rest
  comma_after : (k from : ℕ) → from + k < end → ((i : ℕ) → from ≤ i → i < from + k → get_or text i 0 ≢ 44) → get_or text (from + k) 0 ≡ 44 →
      fields (slice from end text) ≡ slice from (from + k) text ∷ fields (slice (suc (from + k)) end text)
  comma_after zero from h none e =
      let z : from + 0 ≡ from = omega arith in
      at_comma from (omega arith) (rw z at e)
      ∙ ap (λ (l : List ℕ). l ∷ fields (slice (suc from) end text)) (sym (slice_empty from text)) ∙ ap
      (λ (n : ℕ). slice from n text ∷ fields (slice (suc n) end text)) (sym z)
  comma_after (suc k) from h none e =
      let p : from + suc k ≡ suc from + k = omega arith in
      let later = comma_after k (suc from) (omega arith) (λ i a b. none i (omega arith) (omega arith)) (rw p at e) in
      in_field from (omega arith) (none from (omega arith) (omega arith))
      ∙ ap (joined (get_or text from 0)) later
      ∙ ap (λ (l : List ℕ). l ∷ fields (slice (suc (suc from + k)) end text)) (sym (slice-cons from (suc from + k) text 0 (omega arith) (omega arith)))
      ∙ ap (λ (n : ℕ). slice from n text ∷ fields (slice (suc n) end text)) (sym p)

  -- no comma: one field
  no_comma : (k from : ℕ) → from + k ≡ end → ((i : ℕ) → from ≤ i → i < end → get_or text i 0 ≢ 44) → fields (slice from end text) ≡ slice from end text ∷ []
  no_comma zero from e none =
      let z : from ≡ end = omega arith in
      let s : slice from end text ≡ [] = ap (λ (n : ℕ). slice n end text) z ∙ slice_empty end text in
      ap fields s ∙ ap (λ (l : List ℕ). l ∷ []) (sym s)
  no_comma (suc k) from e none =
      in_field from (omega arith) (none from (omega arith) (omega arith))
      ∙ ap (joined (get_or text from 0)) (no_comma k (suc from) (omega arith) (λ i a b. none i (omega arith) b))
      ∙ ap (λ (l : List ℕ). l ∷ []) (sym (slice-cons from end text 0 (omega arith) within))

  -- .. by what the search for a comma finds
  pub parted : {from at : ℕ} → CommaAt text from end at → at < end → fields (slice from end text) ≡ slice from at text ∷ fields (slice (suc at) end text)
  parted {from} {at} c h =
      let o = c.order in
      let p : from + (at - from) ≡ at = omega arith in
      comma_after (at - from) from (omega arith) (λ i a b. c.before i a (omega arith)) (rw p (c.there h))
      ∙ ap (λ (n : ℕ). slice from n text ∷ fields (slice (suc n) end text)) p

  pub alone : {from at : ℕ} → CommaAt text from end at → at ≡ end → fields (slice from end text) ≡ slice from end text ∷ []
  alone {from} {at} c e =
      let o = c.order in
      no_comma (end - from) from (omega arith) (λ i a b. c.before i a (omega arith))

  -- a search for the first comma, by what it passes and where it stops
  module _ (from : ℕ) (order : from ≤ end) where
    at_place : (P : ℕ → Type 0) (i : ℕ) → from ≤ i → i < end → P (get_or (slice from end text) (i - from) 0) → P (get_or text i 0)
    at_place P i a b h =
        let p : from + (i - from) ≡ i = omega arith in
        subst P (get_or_slice from end text (i - from) (omega arith) ∙ ap (λ (k : ℕ). get_or text k 0) p) h

    pub comma_none : AllWithin (λ (x : ℕ). x ≢ 44) (slice from end text) 0 (length (slice from end text)) → CommaAt text from end end
    comma_none all = record {
      order = order;
      inside = omega arith;
      before = λ i a b. at_place (λ (x : ℕ). x ≢ 44) i a b (all (i - from) 0 (omega arith) (omega (arith, length-slice from end text within)));
      there = λ h. absurd (omega arith);
    }

    pub comma_some : (at : ℕ) → at < length (slice from end text) → HoldsAt (λ (x : ℕ). x ≡ 44) (slice from end text) at →
        AllWithin (λ (x : ℕ). x ≢ 44) (slice from end text) 0 at → CommaFound text from end (Some (from + at))
    comma_some at h here all =
        let l = length-slice from end text within in
        let q : from + at < end = omega arith in (
          record {
            order = omega arith;
            inside = omega arith;
            before = λ i a b. at_place (λ (x : ℕ). x ≢ 44) i a (omega arith) (all (i - from) 0 (omega arith) (omega arith));
            there = λ _. sym (get_or_slice from end text at q) ∙ here 0;
          },
          q,
        )

-- as many fields as commas, and one more
pub one_field : {text : List ℕ} {from end : ℕ} → end ≤ length text → CommaAt text from end end → length (fields (slice from end text)) ≡ 1
one_field {text} {end = end} w c = ap length (alone text end w c refl)

pub more_fields : {text : List ℕ} {from at end : ℕ} → end ≤ length text → CommaFound text from end (Some at) →
    length (fields (slice from end text)) ≡ suc (length (fields (slice (at + 1) end text)))
more_fields {text} {end = end} w f = rw add-one (ap length (parted text end w f.0 f.1))

-- five
pub five_fields : {text : List ℕ} {from first second third fourth end : ℕ} → end ≤ length text → CommaFound text from end (Some first) →
    CommaFound text (first + 1) end (Some second) → CommaFound text (second + 1) end (Some third) → CommaFound text (third + 1) end (Some fourth) →
    CommaAt text (fourth + 1) end end → FiveEnds text from end (record { first = first; second = second; third = third; fourth = fourth })
five_fields {text} {from} {first} {second} {third} {fourth} {end} w a b c d e = record {
  order = (a.0.order, (omega (arith, b.0.order), (omega (arith, c.0.order), (omega (arith, d.0.order), d.1))));
  fields_are = parted text end w a.0 a.1
      ∙ ap (λ (l : List (List ℕ)). slice from first text ∷ l) (parted text end w (rw add-one at b.0) b.1
      ∙ ap (λ (l : List (List ℕ)). slice (suc first) second text ∷ l) (parted text end w (rw add-one at c.0) c.1
      ∙ ap (λ (l : List (List ℕ)). slice (suc second) third text ∷ l) (parted text end w (rw add-one at d.0) d.1
      ∙ ap (λ (l : List (List ℕ)). slice (suc third) fourth text ∷ l) (alone text end w (rw add-one at e) refl))));
}

-- a line has a field
pub some_field : (l : List ℕ) → 1 ≤ length (fields l)
some_field [] = omega arith
some_field (c ∷ l) = of (eqb c 44) (fields l) (some_field l)
  where
    of : (b : Bool) (fs : List (List ℕ)) → 1 ≤ length fs → 1 ≤ length (cond b ([] ∷ fs) (joined c fs))
    of true fs h = omega arith
    of false [] h = absurd (omega arith)
    of false (f ∷ fs) h = omega arith

-- with the place behind a comma as the code writes it
pub fields_at : {text : List ℕ} {from end : ℕ} {e : Ends} → FiveEnds text from end e → fields (slice from end text) ≡ slice from e.first text ∷ slice (e.first + 1) e.second text
    ∷ slice (e.second + 1) e.third text ∷ slice (e.third + 1) e.fourth text ∷ slice (e.fourth + 1) end text ∷ []
fields_at {e = e} f = rw (add-one e.first, add-one e.second, add-one e.third, add-one e.fourth) f.fields_are
