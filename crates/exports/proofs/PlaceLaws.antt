-- Places in cell order: the next one, and which cell stands at a place. Assumes nothing.
use mathlib.Core.Path.{◌≡◌, refl, ap, ◌∙◌, subst}
use mathlib.Core.List.{List}
use Prim.Native.Nat.{ℕ, zero, suc, ◌+◌, ◌-◌, ◌*◌, ◌≤◌, ◌<◌}
use native.Mathlib.Nat.{mul-le-mul_right}
use native.Mathlib.Decide.{dec_lt, ℕ_discrete}
use native.Mathlib.Numerals.{add-one}
use native.Mathlib.Omega.{arith}
use borrow.Author.Tests.{lt-ltb, le-ltb, eq-eqb, ne_eqb}
use Rattle.tables.specs.Tables.{cells, cell}
use Rattle.exports.specs.declared.place.Place.{Place}
use Rattle.exports.specs.Export.{next_place, first_place, place_at, PlaceOf, Exportable}
use Rattle.exports.specs.Parts.{Placed}

-- ---- the four ways on

module _ (Q : ℕ) (p : Place) where
  -- the next setting
  pub to_setting : p.setting + 1 < Q → record { scan = p.scan; previous = p.previous; setting = p.setting + 1 } ≡ next_place Q p
  unfolding next_place
  to_setting h = rw (lt-ltb (suc p.setting) Q (omega arith), add-one) refl

  -- scan 1, after the one row of scan 0
  pub to_scan_one : Q ≤ p.setting + 1 → p.scan ≡ 0 → record { scan = 1; previous = 0; setting = 0 } ≡ next_place Q p
  unfolding next_place
  to_scan_one h e = rw (le-ltb (suc p.setting) Q (omega arith), eq-eqb p.scan 0 e) refl

  -- the next row of a later scan
  pub to_row : Q ≤ p.setting + 1 → (p.scan ≡ 0 → ⊥) → p.previous + 1 < Q →
      record { scan = p.scan; previous = p.previous + 1; setting = 0 } ≡ next_place Q p
  unfolding next_place
  to_row h n g =
      rw (le-ltb (suc p.setting) Q (omega arith), ne_eqb p.scan 0 n, lt-ltb (suc p.previous) Q (omega arith), add-one) refl

  -- the next scan
  pub to_scan : Q ≤ p.setting + 1 → (p.scan ≡ 0 → ⊥) → Q ≤ p.previous + 1 → record { scan = p.scan + 1; previous = 0; setting = 0 } ≡ next_place Q p
  unfolding next_place
  to_scan h n g =
      rw (le-ltb (suc p.setting) Q (omega arith), ne_eqb p.scan 0 n, le-ltb (suc p.previous) Q (omega arith), add-one) refl

-- ---- which cell it is

pub first_is : (Q : ℕ) → 1 ≤ Q → PlaceOf Q 0 first_place
first_is Q h = record { previous = h; setting = h; is = refl; none_before = λ e. refl }

-- one setting on is one cell on
setting_on : (Q i p q : ℕ) → cell Q i p (q + 1) ≡ cell Q i p q + 1
setting_on Q zero p q = refl
setting_on Q (suc i) p q = omega arith

-- from the last setting of a row to the next row
row_on : (Q i p q : ℕ) → (i ≡ 0 → ⊥) → q + 1 ≡ Q → cell Q i (p + 1) 0 ≡ cell Q i p q + 1
row_on Q zero p q n e = absurd (n refl)
row_on Q (suc i) p q n e = omega arith

-- .. and from the last of a scan to the next scan
scan_on : (Q i p q : ℕ) → (i ≡ 0 → ⊥) → p + 1 ≡ Q → q + 1 ≡ Q → cell Q (i + 1) 0 0 ≡ cell Q i p q + 1
scan_on Q zero p q n e f = absurd (n refl)
scan_on Q (suc i) p q n e f =
    let s : suc i + 1 ≡ suc (suc i) = omega arith in
    rw s (omega (arith, ap (λ (x : ℕ). x * Q) e))

pub next_is : {Q c : ℕ} {p : Place} → PlaceOf Q c p → PlaceOf Q (c + 1) (next_place Q p)
next_is {Q} {c} {p} a = of (dec_lt (p.setting + 1) Q) (ℕ_discrete p.scan 0) (dec_lt (p.previous + 1) Q)
  where
    of : Dec (p.setting + 1 < Q) → Dec (p.scan ≡ 0) → Dec (p.previous + 1 < Q) → PlaceOf Q (c + 1) (next_place Q p)
    of (yes h) e g = subst (PlaceOf Q (c + 1)) (to_setting Q p h) (record {
      previous = a.previous;
      setting = h;
      is = setting_on Q p.scan p.previous p.setting ∙ ap (λ (k : ℕ). k + 1) a.is;
      none_before = a.none_before;
    })
    of (no h) (yes e) g = subst (PlaceOf Q (c + 1)) (to_scan_one Q p (omega arith) e) (record {
      previous = omega (arith, a.previous);
      setting = omega (arith, a.previous);
      is = let i : cell Q 0 p.previous p.setting ≡ c = (rw e at a.is) in omega (arith, a.setting, i);
      none_before = λ z. refl;
    })
    of (no h) (no e) (yes g) = subst (PlaceOf Q (c + 1)) (to_row Q p (omega arith) e g) (record {
      previous = g;
      setting = omega (arith, a.previous);
      is = row_on Q p.scan p.previous p.setting e (omega (arith, a.setting)) ∙ ap (λ (k : ℕ). k + 1) a.is;
      none_before = λ z. absurd (e z);
    })
    of (no h) (no e) (no g) = subst (PlaceOf Q (c + 1)) (to_scan Q p (omega arith) e (omega arith)) (record {
      previous = omega (arith, a.previous);
      setting = omega (arith, a.previous);
      is = scan_on Q p.scan p.previous p.setting e (omega (arith, a.previous)) (omega (arith, a.setting)) ∙ ap (λ (k : ℕ). k + 1) a.is;
      none_before = λ z. refl;
    })

-- "in cell order": going on from place to place, cell after cell comes by
pub in_cell_order : (Q : ℕ) → 1 ≤ Q → (c : ℕ) → PlaceOf Q c (place_at Q c)
in_cell_order Q h zero = first_is Q h
in_cell_order Q h (suc c) = rw add-one at (next_is (in_cell_order Q h c))

-- the scan of a cell of the tables
scan_inside : (N Q i p q : ℕ) → 1 ≤ N → cell Q i p q < cells N Q → i < N
scan_inside N Q zero p q h l = h
scan_inside N Q (suc i) p q h l = of (dec_lt (suc i) N)
  where
    of : Dec (suc i < N) → suc i < N
    of (yes g) = g
    of (no g) = absurd (omega (arith, mul-le-mul_right {m = N - 1} {n = i} (Q * Q) (omega arith)))

pub scan_below : {N Q c : ℕ} {p : Place} → 1 ≤ N → PlaceOf Q c p → c < cells N Q → p.scan < N
scan_below {N} {Q} {c} {p} n a h = scan_inside N Q p.scan p.previous p.setting n (rw a.is h)

-- its place is within the limits
pub placed : {N Q c : ℕ} {rates distortions : List ℕ} {p : Place} → Exportable N Q rates distortions → PlaceOf Q c p → c < cells N Q → Placed p
placed {p = p} x a h =
    let i = scan_below x.some_scans a h in
    (omega (arith, x.scans), (omega (arith, x.settings, a.previous), omega (arith, x.settings, a.setting)))
