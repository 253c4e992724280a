-- Rows of totals, place by place and setting by setting. Assumes nothing.
use mathlib.Core.Path.{◌≡◌, refl, ap, ◌∙◌}
use mathlib.Core.Bool.{Bool, true, false, cond}
use mathlib.Core.List.{List}
use Prim.Native.Nat.{ℕ, ◌+◌, ◌-◌, ◌*◌, ◌≤◌, ◌<◌}
use native.Mathlib.Decide.{dec_lt}
use native.Mathlib.Omega.{arith}
use lib.Dec.{ltb}
use lib.ListN.{get_or}
use borrow.Author.Tests.{ltb-true, ltb-false, lt-ltb, le-ltb}
use Rattle.laws.proofs.Lists.{part_inside}
use Rattle.within.specs.Ways.{no_way}
use Rattle.within.specs.Rows.{offer, Untouched, AllPut, Taken, Pick, Apart, below, above, RowMade}

-- nothing is touched
pub untouched_none : (from n : ℕ) (l : List ℕ) → Untouched from n l l
untouched_none from n l = record { same = λ k h. refl }

-- a run that is touched lies in a wider one
pub untouched_wider : {from j n : ℕ} {before l : List ℕ} → j ≤ n → Untouched from j before l → Untouched from n before l
untouched_wider h u = record { same = λ k g. u.same k (λ a b. g a (omega arith)) }

-- what lies ahead is not touched by a row apart from it
pub ahead_same : {n m here ahead : ℕ} {before after : List ℕ} → Apart here n ahead m → Untouched here n before after →
    (k : ℕ) → k < m → get_or after (ahead + k) 0 ≡ get_or before (ahead + k) 0
ahead_same (below h) u k l = u.same _ (λ a b. omega arith)
ahead_same (above h) u k l = u.same _ (λ a b. omega arith)

-- the part of a row from r on, where a setting of rate r offers
pub part_apart : {w here ahead r : ℕ} → r ≤ w → Apart here w ahead w → Apart (here + r) (w - r) ahead (w - r)
part_apart h (below g) = below (omega arith)
part_apart h (above g) = above (omega arith)

-- the part of what lies ahead that is one setting's
pub setting_apart : {w here ahead : ℕ} (m q : ℕ) → q < m → Apart here w ahead (m * w) → Apart here w (ahead + q * w) w
setting_apart {w} m q h (below g) = below (omega arith)
setting_apart {w} m q h (above g) = above (omega (arith, part_inside w {j = q} {m = m} h))

-- less of what lies ahead is apart where more is
pub apart_shorter : {here n ahead k m : ℕ} → k ≤ m → Apart here n ahead m → Apart here n ahead k
apart_shorter h (below g) = below g
apart_shorter h (above g) = above (omega arith)

-- a setting of rate r offers in its part of the row, and nothing before it
module _ (rate distortion q w here at : ℕ) (ahead : ℕ → ℕ) (totals choices : List ℕ) (capped : (j : ℕ) → j < w → get_or totals (here + j) 0 ≤ no_way) where
  abbrev offers : ℕ → ℕ
  offers = offer rate distortion ahead

  -- no way is never less than what stands
  not_less : (j : ℕ) → j < w → ltb no_way (get_or totals (here + j) 0) ≡ false
  not_less j h = le-ltb _ _ (capped j h)

  pub taken_part : (y : ℕ → ℕ) {totals' choices' : List ℕ} → rate < w → ((j : ℕ) → y j ≡ distortion + ahead j) →
      Taken y q (w - rate) (here + rate) (at + rate) totals choices totals' choices' →
      Taken offers q w here at totals choices totals' choices'
  unfolding offer
  taken_part y {totals'} {choices'} h is a = record {
    total = λ j g. total_at j g (dec_lt j rate);
    choice = λ j g. choice_at j g (dec_lt j rate);
    totals_long = a.totals_long;
    choices_long = a.choices_long;
    totals_rest = record { same = λ k g. a.totals_rest.same k (λ x y. g (omega arith) (omega arith)) };
    choices_rest = record { same = λ k g. a.choices_rest.same k (λ x y. g (omega arith) (omega arith)) };
  }
    where
      total_at : (j : ℕ) → j < w → Dec (j < rate) → get_or totals' (here + j) 0 ≡ cond (ltb (offers j) (get_or totals (here + j) 0)) (offers j) (get_or totals (here + j) 0)
      total_at j g (yes l) = rw (lt-ltb j rate l, not_less j g) (a.totals_rest.same (here + j) (λ x y. omega arith))
      total_at j g (no l) =
          let e : here + rate + (j - rate) ≡ here + j = omega arith in
          rw (le-ltb j rate (omega arith)) (rw (e, is (j - rate)) at (a.total (j - rate) (omega arith)))

      choice_at : (j : ℕ) → j < w → Dec (j < rate) → get_or choices' (at + j) 0 ≡ cond (ltb (offers j) (get_or totals (here + j) 0)) q (get_or choices (at + j) 0)
      choice_at j g (yes l) = rw (lt-ltb j rate l, not_less j g) (a.choices_rest.same (at + j) (λ x y. omega arith))
      choice_at j g (no l) =
          let e : here + rate + (j - rate) ≡ here + j = omega arith in
          let f : at + rate + (j - rate) ≡ at + j = omega arith in
          rw (le-ltb j rate (omega arith)) (rw (e, f, is (j - rate)) at (a.choice (j - rate) (omega arith)))

  -- a rate over every budget that may be left offers nothing
  pub taken_nowhere : w ≤ rate → Taken offers q w here at totals choices totals choices
  unfolding offer
  taken_nowhere h = record {
    total = λ j g. rw (lt-ltb j rate (omega arith), not_less j g) refl;
    choice = λ j g. rw (lt-ltb j rate (omega arith), not_less j g) refl;
    totals_long = refl;
    choices_long = refl;
    totals_rest = untouched_none here w totals;
    choices_rest = untouched_none at w choices;
  }

-- before any setting there is no offer
pub pick_none : (x : ℕ → ℕ) (lo v first : ℕ) → v ≡ no_way → Pick x lo lo v first
pick_none x lo v first e = record {
  capped = omega arith;
  least = λ q h g. absurd (omega arith);
  found = λ h. absurd (omega arith);
  before = λ h q g l. absurd (omega arith);
}

-- one setting more
pub pick_more : {x : ℕ → ℕ} {lo q v first v' first' : ℕ} → lo ≤ q → v' ≡ cond (ltb (x q) v) (x q) v → first' ≡ cond (ltb (x q) v) q first →
    Pick x lo q v first → Pick x lo (q + 1) v' first'
pick_more {x} {lo} {q} {v} {first} {v'} {first'} l e f p = by (ltb (x q) v) refl
  where
    by : (t : Bool) → ltb (x q) v ≡ t → Pick x lo (q + 1) v' first'
    by true z =
        let a : v' ≡ x q = rw z at e in
        let b : first' ≡ q = rw z at f in
        let h = ltb-true (x q) v z in
        record {
          capped = omega (arith, p.capped);
          least = λ r g m. each r g m (dec_lt r q);
          found = λ g. (omega arith, omega arith, rw b a);
          before = λ g r m n. omega (arith, p.least r m (omega arith));
        }
      where
        each : (r : ℕ) → lo ≤ r → r < q + 1 → Dec (r < q) → v' ≤ x r
        each r g m (yes n) = let a : v' ≡ x q = rw z at e in omega (arith, ltb-true (x q) v z, p.least r g n)
        each r g m (no n) = let a : v' ≡ x q = rw z at e in let s : r ≡ q = omega arith in rw s (omega arith)
    by false z =
        let a : v' ≡ v = rw z at e in
        let b : first' ≡ first = rw z at f in
        let h = ltb-false (x q) v z in
        record {
          capped = omega (arith, p.capped);
          least = λ r g m. each r g m (dec_lt r q);
          found = λ g. let w = p.found (omega arith) in (omega (arith, w.0), omega (arith, w.1), a ∙ rw b w.2);
          before = λ g r m n. omega (arith, p.before (omega arith) r m (omega arith));
        }
      where
        each : (r : ℕ) → lo ≤ r → r < q + 1 → Dec (r < q) → v' ≤ x r
        each r g m (yes n) = let a : v' ≡ v = rw z at e in omega (arith, p.least r g n)
        each r g m (no n) = let a : v' ≡ v = rw z at e in let s : r ≡ q = omega arith in rw s (omega (arith, ltb-false (x q) v z))

-- an offer looks at no more than b of what lies ahead
pub offer_same : (rate distortion b : ℕ) {f g : ℕ → ℕ} → ((k : ℕ) → k ≤ b → f k ≡ g k) → offer rate distortion f b ≡ offer rate distortion g b
unfolding offer
offer_same rate distortion b {f} {g} same = ap (λ (x : ℕ). cond (ltb b rate) no_way (distortion + x)) (same (b - rate) (omega arith))

-- a row before any setting, and with one more
pub row_none : (x : ℕ → ℕ → ℕ) (w lo here at : ℕ) (totals choices : List ℕ) → ((b : ℕ) → b < w → get_or totals (here + b) 0 ≡ no_way) →
    RowMade x w lo lo here at totals choices totals choices
row_none x w lo here at totals choices e = record {
  pick = λ b h. pick_none (x b) lo _ _ (e b h);
  totals_long = refl;
  choices_long = refl;
  totals_rest = untouched_none here w totals;
  choices_rest = untouched_none at w choices;
}

untouched_again : {from n : ℕ} {l m r : List ℕ} → Untouched from n m r → Untouched from n l m → Untouched from n l r
untouched_again u v = record { same = λ k h. u.same k h ∙ v.same k h }

pub row_more : {x : ℕ → ℕ → ℕ} {w lo q here at : ℕ} {totals choices t c t' c' : List ℕ} (y : ℕ → ℕ) → lo ≤ q → ((b : ℕ) → b < w → y b ≡ x b q) →
    Taken y q w here at t c t' c' → RowMade x w lo q here at totals choices t c → RowMade x w lo (q + 1) here at totals choices t' c'
row_more {x} {w} {lo} {q} y l e a r = record {
  pick = λ b h. pick_more {x = x b} l (rw (e b h) at (a.total b h)) (rw (e b h) at (a.choice b h)) (r.pick b h);
  totals_long = a.totals_long ∙ r.totals_long;
  choices_long = a.choices_long ∙ r.choices_long;
  totals_rest = untouched_again a.totals_rest r.totals_rest;
  choices_rest = untouched_again a.choices_rest r.choices_rest;
}

-- the same offers in other words
pick_same : {x y : ℕ → ℕ} {lo hi v first : ℕ} → ((q : ℕ) → q < hi → x q ≡ y q) → Pick x lo hi v first → Pick y lo hi v first
pick_same {first = first} e p = record {
  capped = p.capped;
  least = λ q h g. omega (arith, p.least q h g, e q g);
  found = λ h. let w = p.found h in (w.0, w.1, w.2 ∙ e first w.1);
  before = λ h q g l. omega (arith, p.before h q g l, e q (omega (arith, (p.found h).1)));
}

-- a row that was cleared and then made is made of what stood there before
pub row_from : {x y : ℕ → ℕ → ℕ} {w lo hi here at : ℕ} {totals cleared choices t c : List ℕ} → AllPut here w no_way totals cleared →
    ((b q : ℕ) → b < w → q < hi → x b q ≡ y b q) → RowMade x w lo hi here at cleared choices t c → RowMade y w lo hi here at totals choices t c
row_from a e r = record {
  pick = λ b h. pick_same (λ q g. e b q h g) (r.pick b h);
  totals_long = r.totals_long ∙ a.long;
  choices_long = r.choices_long;
  totals_rest = untouched_again r.totals_rest a.rest;
  choices_rest = r.choices_rest;
}
