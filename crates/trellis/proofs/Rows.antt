-- The dynamic program as the pass runs it: a row holds, for each setting before a scan, the least cost from there to the end, or no_way;
-- the row before it comes from the best choice of each setting; the choices are read back from the start. Assumes nothing.
use mathlib.Core.Path.{◌≡◌, refl, ap}
use mathlib.Core.List.{List, [], ◌∷◌}
use Prim.Native.Nat.{ℕ, zero, suc, ◌+◌, ◌≤◌, ◌<◌}
use native.Mathlib.Decide.{dec_lt}
use native.Mathlib.Omega.{arith}
use lib.ListN.{length}
use Rattle.criteria.specs.Order.{lower, tie}
use Rattle.criteria.proofs.Order.{then_le}
use Rattle.tables.specs.Series.{Series, Kept, total}
use Rattle.least.specs.Row.{no_way}
use Rattle.trellis.specs.Choices.{walk}
use Rattle.trellis.proofs.Onward.{Onward, LeastOn, Prefer, least_end, least_step}

-- choices of earlier scans, and those after no setting, play no part
pub walk_same : (S : Series) (ch ch' : ℕ → ℕ → ℕ) (n i p : ℕ) → p < S.settings → Kept S i p (walk ch n i p) →
    ((j r : ℕ) → i ≤ j → r < S.settings → ch j r ≡ ch' j r) → walk ch n i p ≡ walk ch' n i p
walk_same S ch ch' zero i p h k e = refl
walk_same S ch ch' (suc n) i p h k e =
    rw (← (e i p (omega arith) h))
    (ap (λ (s : List ℕ). ch i p ∷ s) (walk_same S ch ch' n (suc i) (ch i p) k.0 k.2 (λ j r l m. e j r (omega arith) m)))

module _ (S : Series) (f : ℕ → ℕ → ℕ → ℕ) where
  -- of the m settings that may stand before scan i (before scan 0 one stands for none), with n scans to the end
  pub record Row (m n i : ℕ) (ch : ℕ → ℕ → ℕ) (k : ℕ → ℕ) : Type 0 where
    pub capped : (p : ℕ) → p < m → k p ≤ no_way
    pub dead : (p : ℕ) → p < m → k p ≡ no_way → (t : List ℕ) → Onward S n i p t → ⊥
    pub live : (p : ℕ) → p < m → k p < no_way → LeastOn S f n i p (walk ch n i p)
    pub cost : (p : ℕ) → p < m → k p < no_way → k p ≡ total f i p (walk ch n i p)

  -- after the last scan nothing costs anything
  pub row_end : (m i : ℕ) (ch : ℕ → ℕ → ℕ) (k : ℕ → ℕ) → ((p : ℕ) → p < m → k p ≡ 0) → Row m 0 i ch k
  row_end m i ch k z = record {
    capped = λ p h. omega (arith, z p h);
    dead = λ p h e. absurd (omega (arith, z p h));
    live = λ p h e. least_end S f i p;
    cost = λ p h e. z p h;
  }

  -- v is the least of what the settings that may follow p cost with what lies ahead of them, and q the lowest that attains it
  pub record BestChoice (i p : ℕ) (k : ℕ → ℕ) (v q : ℕ) : Type 0 where
    pub capped : v ≤ no_way
    pub least : (r : ℕ) → r < S.settings → S.may i p r → v ≤ f i p r + k r
    pub found : v < no_way → (q < S.settings) × S.may i p q × (v ≡ f i p q + k q)
    pub first : v < no_way → (r : ℕ) → r < S.settings → S.may i p r → r < q → v < f i p r + k r

  -- no way on to the end costs as much as no_way
  abbrev pub Below : ℕ → ℕ → Type 0
  Below n i = (p : ℕ) (t : List ℕ) → p < S.settings → Onward S n i p t → total f i p t < no_way

  -- the row of a scan, from the row of the next
  pub row_step : {m n i : ℕ} {ch : ℕ → ℕ → ℕ} {k v : ℕ → ℕ} → m ≤ S.settings → Below (suc n) i → Row S.settings n (suc i) ch k →
      ((p : ℕ) → p < m → BestChoice i p k (v p) (ch i p)) → Row m (suc n) i ch v
  row_step {m} {n} {i} {ch} {k} {v} few below row c = record {
    capped = λ p h. (c p h).capped;
    dead = λ p h e t o. none p h e t o.0 o.1;
    live = λ p h e. let w = (c p h).found e in
        least_step S f n i p (ch i p) (walk ch n (suc i) (ch i p)) w.0 w.1
        (row.live (ch i p) w.0 (omega (arith, w.2))) (others p h e);
    cost = λ p h e. let w = (c p h).found e in omega (arith, w.2, row.cost (ch i p) w.0 (omega (arith, w.2)));
  }
    where
      -- a way on shows that its first setting is not dead
      alive : (q : ℕ) (t : List ℕ) → q < S.settings → Onward S n (suc i) q t → k q < no_way
      alive q t h o = by_order (dec_lt (k q) no_way)
        where
          by_order : Dec (k q < no_way) → k q < no_way
          by_order (yes l) = l
          by_order (no l) = absurd (row.dead q h (omega (arith, row.capped q h)) t o)

      none : (p : ℕ) → p < m → v p ≡ no_way → (t : List ℕ) → length t ≡ suc n → Kept S i p t → ⊥
      none p h e [] l x = omega arith
      none p h e (q ∷ t) l x =
          let o : Onward S n (suc i) q t = (omega arith, x.2) in
          let a = alive q t x.0 o in
          omega (
            arith,
            (c p h).least q x.0 x.1,
            row.cost q x.0 a,
            then_le ((row.live q x.0 a).ahead t o),
            below p (q ∷ t) (omega arith) (l, x),
          )

      others : (p : ℕ) → p < m → v p < no_way → (q : ℕ) (t : List ℕ) → q < S.settings → S.may i p q → Onward S n (suc i) q t →
          (s : List ℕ) × LeastOn S f n (suc i) q s × Prefer S f i p (ch i p) (walk ch n (suc i) (ch i p)) q s
      others p h e q t l y o =
          let a = alive q t l o in
          let w = (c p h).found e in
          let x = row.cost (ch i p) w.0 (omega (arith, w.2)) in
          let z = row.cost q l a in
          (walk ch n (suc i) q, row.live q l a, prefer x z w.2 (dec_lt (v p) (f i p q + k q)) (dec_lt q (ch i p)))
        where
          prefer : k (ch i p) ≡ total f (suc i) (ch i p) (walk ch n (suc i) (ch i p)) → k q ≡ total f (suc i) q (walk ch n (suc i) q) →
              v p ≡ f i p (ch i p) + k (ch i p) → Dec (v p < f i p q + k q) → Dec (q < ch i p) →
              Prefer S f i p (ch i p) (walk ch n (suc i) (ch i p)) q (walk ch n (suc i) q)
          prefer x z w (yes b) d = lower (omega arith)
          prefer x z w (no b) (yes d) = absurd (omega (arith, (c p h).first e q l y d))
          prefer x z w (no b) (no d) = tie (omega (arith, (c p h).least q l y)) (omega arith)

  -- a row stands while choices of earlier scans are written
  pub row_frame : {n i : ℕ} {ch ch' : ℕ → ℕ → ℕ} {k : ℕ → ℕ} → ((j r : ℕ) → i ≤ j → r < S.settings → ch j r ≡ ch' j r) →
      Row S.settings n i ch k → Row S.settings n i ch' k
  row_frame {n} {i} {ch} {ch'} {k} same row = record {
    capped = row.capped;
    dead = row.dead;
    live = λ p h e. rw (frame p h e) at (row.live p h e);
    cost = λ p h e. rw (frame p h e) at (row.cost p h e);
  }
    where
      frame : (p : ℕ) → p < S.settings → k p < no_way → walk ch n i p ≡ walk ch' n i p
      frame p h e = walk_same S ch ch' n i p h (row.live p h e).one.1 same
