-- From the least rates before a scan to those behind it: the beginnings of one scan more. Assumes nothing.
use mathlib.Core.Path.{◌≡◌, refl, sym, ap, ◌∙◌}
use mathlib.Core.Logic.{◌≢◌}
use mathlib.Core.List.{List, [], ◌∷◌, ◌++◌}
use Prim.Native.Nat.{ℕ, zero, suc, ◌+◌, ◌*◌, ◌≤◌, ◌<◌}
use native.Mathlib.Decide.{dec_lt}
use native.Mathlib.Omega.{arith}
use lib.ListN.{length, get_or}
use Rattle.tables.specs.Limits.{forbidden, over_total}
use Rattle.tables.specs.Law.{Follows}
use Rattle.tables.specs.Series.{Series, total, last_of}
use Rattle.tables.specs.Tables.{Table, cell, scan_start, rate_at, series}
use Rattle.tables.proofs.Beginnings.{ends, last_end, length_end, total_end, kept_end, end_kept, last_below}
use Rattle.fits.specs.Reach.{EndsIn, Reaches, Reached, comes_to, ScanTaken}

-- the rows of a scan: one at scan 0, and one for each setting before a later one
abbrev pub rows_of : (Q k : ℕ) → ℕ
rows_of Q zero = 1
rows_of Q (suc k) = Q

pub rows_fit : (Q k : ℕ) → 1 ≤ Q → rows_of Q k ≤ Q
rows_fit Q zero h = h
rows_fit Q (suc k) h = omega arith

-- a scan's cells end where those of the next start
pub rows_end : (Q k : ℕ) → scan_start Q k + rows_of Q k * Q ≡ scan_start Q (suc k)
rows_end Q zero = omega arith
rows_end Q (suc k) = omega arith

-- the cell of a row
pub row_cell : (Q k p q : ℕ) → p < rows_of Q k → scan_start Q k + p * Q + q ≡ cell Q k p q
row_cell Q zero p q h = let e : p ≡ 0 = omega arith in rw e (omega arith)
row_cell Q (suc k) p q h = refl

-- before scan 0 there is the beginning of no scans, which ends in 0
pub reach_start : (S : Series) (limit : ℕ) (l : List ℕ) → get_or l 0 0 ≡ 0 → ((q : ℕ) → 1 ≤ q → q < S.settings → get_or l q 0 ≡ over_total) → Reached S 0 limit l
reach_start S limit l z e = record { capped = capped; lowest = λ q h s w g. lowest q s w; found = found }
  where
    capped : (q : ℕ) → q < S.settings → get_or l q 0 ≤ over_total
    capped zero h = omega (arith, z)
    capped (suc q) h = omega (arith, e (suc q) (omega arith) h)

    lowest : (q : ℕ) (s : List ℕ) → EndsIn S 0 q s → get_or l q 0 ≤ total S.rate 0 0 s
    lowest q [] w = rw (sym w.last) (omega (arith, z))
    lowest q (r ∷ s) w = absurd (omega (arith, w.long))

    found : (q : ℕ) → q < S.settings → get_or l q 0 < over_total → Reaches S 0 q (get_or l q 0)
    found zero h g = record { beginning = []; ends = record { long = refl; kept = tt; last = refl }; is = sym z }
    found (suc q) h g = absurd (omega (arith, e (suc q) (omega arith) h))

-- The first rows of scan k are taken, and past them no total is within the limit: so no beginning that is within it ends there.
module _ (t : Table) (k limit : ℕ) {rows : ℕ} {l l' : List ℕ} (few : rows ≤ rows_of t.Q k) (past : (p : ℕ) → rows ≤ p → p < t.Q → limit < get_or l p 0)
    (before : Reached (series t) k limit l) (taken : ScanTaken (Follows t.law k) t.rates t.Q (scan_start t.Q k) rows l l') where
  abbrev S : Series
  S = series t

  lowest : (q : ℕ) → q < t.Q → (s : List ℕ) → EndsIn S (suc k) q s → total S.rate 0 0 s ≤ limit → get_or l' q 0 ≤ total S.rate 0 0 s
  lowest q h s w g =
      let x = ends k s w.long in
      let f = x.front in
      let p = last_of 0 f in
      let z : x.last ≡ q = sym (last_end 0 f x.last) ∙ ap (last_of 0) (sym x.is) ∙ w.last in
      let is : s ≡ f ++ (q ∷ []) = x.is ∙ ap (λ (r : ℕ). f ++ (r ∷ [])) z in
      let y = end_kept S 0 0 f q (rw is at w.kept) in
      let n : 0 + length f ≡ k = omega (arith, x.long) in
      let m : S.may k p q = rw n at y.2 in
      let sum : total S.rate 0 0 s ≡ total S.rate 0 0 f + S.rate k p q = ap (total S.rate 0 0) is ∙ (rw n at (total_end S.rate 0 0 f q)) in
      let u : p < t.Q = last_below S 0 0 f (omega arith) y.0 in
      let v : get_or l p 0 ≤ total S.rate 0 0 f = before.lowest p u f (record { long = x.long; kept = y.0; last = refl }) (omega (arith, sum, g)) in
      let b : p < rows = has_row p u (omega (arith, v, sum, g)) (dec_lt p rows) in
      let c : get_or l' q 0 ≤ comes_to (get_or l p 0) (rate_at t k p q) = rw (row_cell t.Q k p q (omega (arith, b, few))) at (taken.lowest p q b h m.1) in
      omega (arith, sum, c, v)
    where
      has_row : (p : ℕ) → p < t.Q → get_or l p 0 ≤ limit → Dec (p < rows) → p < rows
      has_row p u v (yes b) = b
      has_row p u v (no b) = absurd (omega (arith, past p (omega arith) u, v))

  found : (q : ℕ) → q < t.Q → get_or l' q 0 < over_total → Reaches S (suc k) q (get_or l' q 0)
  found q h g =
      let x = taken.found q h g in
      let p = x.0 in
      let e : get_or l' q 0 ≡ comes_to (get_or l p 0) (rate_at t k p q) = rw (row_cell t.Q k p q (omega (arith, x.1, few))) at x.3 in
      let usable : rate_at t k p q ≢ forbidden = λ z. omega (arith, e, z, g) in
      let r = before.found p (omega (arith, x.1, few, rows_fit t.Q k (omega arith))) (omega (arith, e, g)) in
      let b = r.beginning in
      let n : 0 + length b ≡ k = omega (arith, r.ends.long) in
      let m : S.may (0 + length b) (last_of 0 b) q = rw (n, r.ends.last) (usable, x.2) in
      let sum : total S.rate 0 0 (b ++ (q ∷ [])) ≡ total S.rate 0 0 b + S.rate k p q = rw (n, r.ends.last) at (total_end S.rate 0 0 b q) in
      record {
        beginning = b ++ (q ∷ []);
        ends = record {
          long = length_end b q ∙ ap suc r.ends.long;
          kept = kept_end S 0 0 b q r.ends.kept h m;
          last = last_end 0 b q;
        };
        is = omega (arith, sum, r.is, e, g);
      }

  -- one scan more
  pub reach_step : Reached S (suc k) limit l'
  reach_step = record { capped = taken.capped; lowest = lowest; found = found }
