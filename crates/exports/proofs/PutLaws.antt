-- Bytes put one after another. Assumes nothing.
use mathlib.Core.Path.{◌≡◌, refl, sym, ap, ◌∙◌}
use mathlib.Core.List.{List, [], ◌∷◌, ◌++◌}
use Prim.Native.Nat.{ℕ, ◌+◌, ◌/◌, ◌%◌, ◌≤◌, ◌<◌}
use native.Mathlib.Numerals.{add-one}
use native.Mathlib.Omega.{arith}
use lib.ListN.{length, set, length-append}
use lib.Seq.{sets}
use Rattle.laws.specs.Put.{Put}
use Rattle.laws.proofs.Stores.{sets_append}
use Rattle.laws.proofs.PutLaws.{next}
use Rattle.exports.specs.declared.place.Place.{Place}
use Rattle.exports.specs.Export.{decimal, previous_field, export_line}
use Rattle.exports.proofs.DecimalLaws.{decimal_one, decimal_more}
use Rattle.exports.proofs.LineLaws.{field, line_is}

-- what is put right behind a text
pub put_more : (d : List ℕ) {e : List ℕ} (l m : List ℕ) (at to : ℕ) → to ≡ at + length l → e ≡ sets d at l → sets e to m ≡ sets d at (l ++ m)
put_more d l m at to p e = ap (λ (x : List ℕ). sets x to m) e ∙ sets_append d l m at to p

-- the only digit of a number
pub put_one : (d : List ℕ) (at x : ℕ) → x < 10 → set d at (48 + x) ≡ sets d at (decimal x)
put_one d at x h = ap (sets d at) (sym (decimal_one x h))

-- the last digit, behind the others
pub put_last : (d : List ℕ) {e : List ℕ} (at to x : ℕ) → 10 ≤ x → to ≡ at + length (decimal (x / 10)) → e ≡ sets d at (decimal (x / 10)) →
    set e to (48 + x % 10) ≡ sets d at (decimal x)
put_last d at to x h p e =
    put_more d (decimal (x / 10)) ((48 + x % 10) ∷ []) at to p e ∙ ap (sets d at) (sym (decimal_more x h))

-- what `put_field` and `put_previous` ensure
pub field_put : {d e : List ℕ} {at to : ℕ} (l : List ℕ) → (to ≡ at + length l + 1) × (e ≡ sets d at (field l)) → Put d at (field l) e to
field_put l p = record { so = p.1; end = omega (arith, p.0, length-append l (44 ∷ [])) }

-- CR and LF behind the fields make the line
pub line_put : {d e : List ℕ} {at to : ℕ} (p : Place) (rate distortion : ℕ) →
    Put d at (field (decimal p.scan) ++ field (previous_field p) ++ field (decimal p.setting) ++ field (decimal rate) ++ decimal distortion) e to →
    (to + 2 ≡ at + length (export_line p rate distortion)) × (set (set e to 13) (to + 1) 10 ≡ sets d at (export_line p rate distortion))
line_put {d} {e} {at} {to} p rate distortion q =
    let r = next q (record { so = ap (λ (k : ℕ). set (set e to 13) k 10) (add-one to); end = refl }) in
    (r.end ∙ ap (λ (l : List ℕ). at + length l) (line_is p rate distortion), r.so ∙ ap (sets d at) (line_is p rate distortion))
