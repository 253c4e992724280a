-- One scan, a setting before it at a time. Assumes nothing.
use mathlib.Core.Path.{◌≡◌, refl, ◌∙◌}
use mathlib.Core.List.{List}
use Prim.Native.Nat.{ℕ, ◌+◌, ◌*◌, ◌≤◌, ◌<◌}
use native.Mathlib.Nat.{mul-le-mul_right}
use native.Mathlib.Decide.{ℕ_discrete}
use native.Mathlib.Omega.{arith}
use lib.ListN.{get_or}
use Rattle.laws.proofs.Lists.{part_inside}
use Rattle.tables.specs.Law.{Law, SideBySide}
use Rattle.trellis.specs.Square.{CellsFit}
use Rattle.trellis.proofs.ClosedLaws.{row_fits}
use Rattle.within.specs.Rows.{Untouched, Pick, Apart, RowMade}
use Rattle.within.specs.Filled.{PickAmong, Scanned}
use Rattle.within.proofs.RowLaws.{untouched_wider, ahead_same}

-- the least offer of settings side by side is the least of those that the law lets follow
pick_run : {law : Law} {p Q lo hi v first : ℕ} {y x : ℕ → ℕ} → SideBySide law p Q lo hi → ((q : ℕ) → q < Q → y q ≡ x q) → Pick y lo hi v first →
    PickAmong (λ q. (q < Q) × law p q) x v first
pick_run {Q = Q} {first = first} s e p = record {
  capped = p.capped;
  least = λ q m. let w = s.reached q m.0 m.1 in omega (arith, p.least q w.0 w.1, e q m.0);
  found = λ h.
      let w = p.found h in
      let l : first < Q = omega (arith, w.1, s.inside) in
      ((l, s.allowed first w.0 w.1), w.2 ∙ e first l);
  before = λ h q m l. omega (arith, p.before h q (s.reached q m.0 m.1).0 l, e q m.0);
}

-- the rows of p settings, with one more
untouched_rows : {from : ℕ} (p w : ℕ) {l m r : List ℕ} → Untouched (from + p * w) w m r → Untouched from (p * w) l m → Untouched from ((p + 1) * w) l r
untouched_rows p w u v = record { same = λ k h. u.same k (λ a b. h (omega arith) (omega arith)) ∙ v.same k (λ a b. h a (omega arith)) }

module _ {law : Law} {x : ℕ → ℕ → ℕ → ℕ} {Q w p here at lo hi : ℕ} {totals choices t c t' c' : List ℕ} where
  pub scan_more : (y : ℕ → ℕ → ℕ) → SideBySide law p Q lo hi → ((b q : ℕ) → b < w → q < Q → y b q ≡ x p b q) →
      RowMade y w lo hi (here + p * w) (at + p * w) t c t' c' → Scanned law x Q w p here at totals choices t c →
      Scanned law x Q w (p + 1) here at totals choices t' c'
  scan_more y side e r s = record {
    pick = λ r l b h. at_setting r l b h (ℕ_discrete r p);
    totals_long = r.totals_long ∙ s.totals_long;
    choices_long = r.choices_long ∙ s.choices_long;
    totals_rest = untouched_rows p w r.totals_rest s.totals_rest;
    choices_rest = untouched_rows p w r.choices_rest s.choices_rest;
  }
    where
      at_setting : (j : ℕ) → j < p + 1 → (b : ℕ) → b < w → Dec (j ≡ p) →
          PickAmong (λ q. (q < Q) × law j q) (x j b) (get_or t' (here + (j * w + b)) 0) (get_or c' (at + (j * w + b)) 0)
      at_setting j l b h (yes z) =
          let f : here + (p * w + b) ≡ here + p * w + b = omega arith in
          let g : at + (p * w + b) ≡ at + p * w + b = omega arith in
          rw (z, f, g) (pick_run side (λ q m. e b q h m) (r.pick b h))
      at_setting j l b h (no z) =
          let d = part_inside w {j = j} {m = p} (omega arith) in
          rw (r.totals_rest.same (here + (j * w + b)) (λ u v. omega arith), r.choices_rest.same (at + (j * w + b)) (λ u v. omega arith))
          (s.pick j (omega arith) b h)

-- what lies ahead of a setting is not touched by the rows that are made
pub offers_same : {Q w here ahead p : ℕ} {totals t : List ℕ} → Apart here (Q * w) ahead (Q * w) → p ≤ Q → Untouched here (p * w) totals t →
    (q k : ℕ) → q < Q → k < w → get_or t (ahead + (q * w + k)) 0 ≡ get_or totals (ahead + (q * w + k)) 0
offers_same {Q} {w} {p = p} a h u q k g l =
    ahead_same a (untouched_wider (mul-le-mul_right {m = p} {n = Q} w h) u) (q * w + k) (omega (arith, part_inside w {j = q} {m = Q} g))

-- the cells of a row, as far as the settings that may follow
pub row_cells : {weight from Q : ℕ} {rates distortions : List ℕ} (p hi : ℕ) → CellsFit weight from (Q * Q) rates distortions → p < Q → hi ≤ Q →
    CellsFit weight (from + p * Q) hi rates distortions
row_cells {from = from} {Q = Q} p hi f h g =
    let r = row_fits {from = from + p * Q} {p = p} f h refl in
    record {
      in_rates = omega (arith, r.in_rates);
      in_distortions = omega (arith, r.in_distortions);
      legal = λ q l. r.legal q (omega arith);
    }
