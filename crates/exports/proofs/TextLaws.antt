-- The whole text, cell after cell. Assumes nothing.
use mathlib.Core.Path.{◌≡◌, refl, sym, ap, ◌∙◌}
use mathlib.Core.List.{List, ◌++◌}
use Prim.Native.Nat.{ℕ, suc, ◌+◌, ◌-◌, ◌≤◌, ◌<◌}
use native.Mathlib.Numerals.{add-one}
use native.Mathlib.Omega.{arith}
use lib.ListN.{length, get_or, take, drop, length-append, length-drop}
use lib.Seq.{sets, length-take-le, take-add, drop-drop, take-append_seam, drop-append_seam}
use Rattle.tables.specs.Tables.{cells}
use Rattle.exports.specs.declared.place.Place.{Place}
use Rattle.exports.specs.Export.{cell_line, next_place, first_place, place_at, export_from, export_text, PlaceOf}
use Rattle.exports.proofs.PlaceLaws.{in_cell_order}
use Rattle.exports.proofs.PutLaws.{put_more}

-- the text before cell c, whose place is p, is `at` bytes long
pub record AtCell (N Q : ℕ) (rates distortions : List ℕ) (at : ℕ) (p : Place) (c : ℕ) : Type 0 where
  pub place : p ≡ place_at Q c
  pub count : c ≤ cells N Q
  pub inside : at ≤ length (export_text N Q rates distortions)
  pub rest : drop at (export_text N Q rates distortions) ≡ export_from Q rates distortions (cells N Q - c) c

-- before the first cell there is nothing
pub at_first : {N Q : ℕ} {rates distortions : List ℕ} → AtCell N Q rates distortions 0 first_place 0
unfolding export_text
at_first {N} {Q} {rates} {distortions} = record {
  place = refl;
  count = omega arith;
  inside = omega arith;
  rest = let e : cells N Q ≡ cells N Q - 0 = omega arith in ap (λ (n : ℕ). export_from Q rates distortions n 0) e;
}

-- the place is that of cell c
pub place_is : {N Q : ℕ} {rates distortions : List ℕ} {at c : ℕ} {p : Place} → 1 ≤ Q → AtCell N Q rates distortions at p c → PlaceOf Q c p
place_is {Q = Q} {c = c} h a = rw a.place (in_cell_order Q h c)

module _ {N Q : ℕ} {rates distortions : List ℕ} {at c rate distortion : ℕ} {p : Place} (a : AtCell N Q rates distortions at p c) (h : c < cells N Q)
    (r : rate ≡ get_or rates c 0) (d : distortion ≡ get_or distortions c 0) where
  abbrev text : List ℕ
  text = export_text N Q rates distortions

  abbrev line : List ℕ
  line = cell_line p rate distortion

  abbrev after : List ℕ
  after = export_from Q rates distortions (cells N Q - (c + 1)) (c + 1)

  -- what is left begins with the line of cell c
  begins : drop at text ≡ line ++ after
  begins =
      let e : cells N Q - c ≡ suc (cells N Q - (c + 1)) = omega arith in
      a.rest ∙ ap (λ (n : ℕ). export_from Q rates distortions n c) e
      ∙ (λ i. cell_line (sym a.place i) (sym r i) (sym d i) ++ export_from Q rates distortions (cells N Q - (c + 1)) (suc c))
      ∙ ap (λ (k : ℕ). line ++ export_from Q rates distortions (cells N Q - (c + 1)) k) (sym (add-one c))

  -- with it, the text is so much longer
  pub at_next : AtCell N Q rates distortions (at + length line) (next_place Q p) (c + 1)
  at_next = record {
    place = ap (next_place Q) a.place ∙ ap (place_at Q) (sym (add-one c));
    count = omega arith;
    inside = omega (arith, a.inside, ap length begins, length-drop at text, length-append line after);
    rest = sym (drop-drop (length line) at text) ∙ ap (drop (length line)) begins ∙ drop-append_seam line after;
  }

  -- .. as it is put into a buffer
  pub put_next : (b : List ℕ) {e f : List ℕ} → e ≡ sets b 0 (take at text) → f ≡ sets e at line → f ≡ sets b 0 (take (at + length line) text)
  put_next b e f =
      f ∙ put_more b (take at text) line 0 at (omega (arith, length-take-le at text a.inside)) e
      ∙ ap (sets b 0) (sym (take-add at (length line) text ∙ ap (λ (l : List ℕ). take at text ++ l) (ap (take (length line)) begins ∙ take-append_seam line after)))

-- behind the last cell it is whole
pub at_end : {N Q : ℕ} {rates distortions : List ℕ} {at c : ℕ} {p : Place} → AtCell N Q rates distortions at p c → cells N Q ≤ c →
    at ≡ length (export_text N Q rates distortions)
at_end {N} {Q} {rates} {distortions} {at} {c} a h =
    let e : cells N Q - c ≡ 0 = omega arith in
    omega (arith, a.inside, length-drop at (export_text N Q rates distortions), ap length (a.rest ∙ ap (λ (n : ℕ). export_from Q rates distortions n c) e))
