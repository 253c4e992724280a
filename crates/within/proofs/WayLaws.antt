-- One scan of the dynamic program within a budget, for any series: the first of the least ways on within b is the best choice of a setting,
-- followed by the first of the least ways on from there within what is then left. Assumes nothing.
use mathlib.Core.Path.{◌≡◌, refl, ap, sym, ◌∙◌}
use mathlib.Core.Logic.{◌⊎◌, inl, inr}
use mathlib.Core.List.{List, [], ◌∷◌}
use Prim.Native.Nat.{ℕ, zero, suc, ◌+◌, ◌-◌, ◌≤◌, ◌<◌}
use native.Mathlib.Nat.{eq-or-lt_of_le}
use native.Mathlib.Decide.{dec_lt}
use native.Mathlib.Omega.{arith}
use lib.ListN.{length}
use Rattle.criteria.specs.Order.{Then, lower, tie, First}
use Rattle.criteria.proofs.Order.{then_le, then_trans}
use Rattle.tables.specs.Series.{Series, Kept, total}
use Rattle.keys.specs.OneKey.{Least}
use Rattle.trellis.proofs.Onward.{least_unique, then_shift}
use Rattle.within.specs.Ways.{no_way, Way, path, Ahead}

module _ (S : Series) where
  abbrev pub LeastWay : ℕ → ℕ → ℕ → ℕ → List ℕ → Type 0
  LeastWay n i p b s = Least (Way S n i p b) (total S.distortion i p) s

  -- a way on is a setting and a way on from there
  way_step : {n i p b q : ℕ} {s : List ℕ} → q < S.settings → S.may i p q → S.rate i p q ≤ b → Way S n (suc i) q (b - S.rate i p q) s → Way S (suc n) i p b (q ∷ s)
  way_step h m r w = record { long = ap suc w.long; kept = (h, m, w.kept); fits = omega (arith, w.fits) }

  pub way_on : {n i p b q : ℕ} {s : List ℕ} → Way S (suc n) i p b (q ∷ s) → (S.rate i p q ≤ b) × Way S n (suc i) q (b - S.rate i p q) s
  way_on {n} {i} {p} {b} {q} {s} w =
      let f = w.fits in
      (omega arith, record { long = omega (arith, w.long); kept = w.kept.2; fits = omega arith })

  least_end : (i p b : ℕ) → LeastWay 0 i p b []
  least_end i p b = record { one = record { long = refl; kept = tt; fits = omega arith }; ahead = λ t a. only t a.long }
    where
      only : (t : List ℕ) → length t ≡ 0 → Then (total S.distortion i p []) (total S.distortion i p t) (First [] t)
      only [] e = tie refl tt
      only (q ∷ t) e = absurd (omega arith)

  -- q with s after it is no worse than q' with s' after it, and q is the lower where they tie
  abbrev Prefer : (i p q : ℕ) (s : List ℕ) (q' : ℕ) (s' : List ℕ) → Type 0
  Prefer i p q s q' s' = Then (total S.distortion i p (q ∷ s)) (total S.distortion i p (q' ∷ s')) (q ≤ q')

  least_step : (n i p b q : ℕ) (s : List ℕ) → q < S.settings → S.may i p q → S.rate i p q ≤ b → LeastWay n (suc i) q (b - S.rate i p q) s →
      ((q' : ℕ) (t : List ℕ) → q' < S.settings → S.may i p q' → S.rate i p q' ≤ b → Way S n (suc i) q' (b - S.rate i p q') t →
      (s' : List ℕ) × LeastWay n (suc i) q' (b - S.rate i p q') s' × Prefer i p q s q' s') →
      LeastWay (suc n) i p b (q ∷ s)
  least_step n i p b q s h m r l others = record { one = way_step h m r l.one; ahead = λ t a. against t a }
    where
      joined : (q' : ℕ) (t s' : List ℕ) → LeastWay n (suc i) q' (b - S.rate i p q') s' → Prefer i p q s q' s' →
          Then (total S.distortion (suc i) q' s') (total S.distortion (suc i) q' t) (First s' t) →
          Then (total S.distortion i p (q ∷ s)) (total S.distortion i p (q' ∷ t)) (First (q ∷ s) (q' ∷ t))
      joined q' t s' l' w v = then_trans (λ k f. last f (eq-or-lt_of_le k)) w (then_shift (S.distortion i p q') v)
        where
          last : First s' t → (q ≡ q') ⊎ (q < q') → Then q q' (First s t)
          last f (inl e) = tie e (rw (least_unique {k = total S.distortion (suc i) q'} (rw e at l) l') f)
          last f (inr k) = lower k

      against : (t : List ℕ) → Way S (suc n) i p b t → Then (total S.distortion i p (q ∷ s)) (total S.distortion i p t) (First (q ∷ s) t)
      against [] a = absurd (omega (arith, a.long))
      against (q' ∷ t) a =
          let o = way_on a in
          let x = others q' t a.kept.0 a.kept.1 o.0 o.1 in
          joined q' t x.0 x.1 x.2 (x.1.ahead t o.1)

  -- after the last scan nothing costs anything
  pub ahead_end : (w m i : ℕ) (ch : ℕ → ℕ → ℕ → ℕ) (k : ℕ → ℕ → ℕ) → ((p b : ℕ) → p < m → b < w → k p b ≡ 0) → Ahead S w m 0 i ch k
  ahead_end w m i ch k z = record {
    capped = λ p b h g. omega (arith, z p b h g);
    none = λ p b h g e. absurd (omega (arith, z p b h g));
    some = λ p b h g e. least_end i p b;
    cost = λ p b h g e. z p b h g;
  }

  -- v is the least of what the settings that may follow p within b cost with what lies ahead of them, and q the lowest that attains it
  pub record BestWay (i p b : ℕ) (k : ℕ → ℕ → ℕ) (v q : ℕ) : Type 0 where
    pub capped : v ≤ no_way
    pub least : (r : ℕ) → r < S.settings → S.may i p r → S.rate i p r ≤ b → v ≤ S.distortion i p r + k r (b - S.rate i p r)
    pub found : v < no_way → (q < S.settings) × (S.may i p q × ((S.rate i p q ≤ b) × (v ≡ S.distortion i p q + k q (b - S.rate i p q))))
    pub first : v < no_way → (r : ℕ) → r < S.settings → S.may i p r → S.rate i p r ≤ b → r < q → v < S.distortion i p r + k r (b - S.rate i p r)

  -- no way on to the end has a distortion of no_way
  abbrev pub Below : ℕ → ℕ → Type 0
  Below n i = (p : ℕ) (t : List ℕ) → p < S.settings → length t ≡ n → Kept S i p t → total S.distortion i p t < no_way

  -- what lies ahead of a scan, from what lies ahead of the next
  pub ahead_step : {w m n i : ℕ} {ch : ℕ → ℕ → ℕ → ℕ} {k v : ℕ → ℕ → ℕ} → m ≤ S.settings → Below (suc n) i → Ahead S w S.settings n (suc i) ch k →
      ((p b : ℕ) → p < m → b < w → BestWay i p b k (v p b) (ch i p b)) → Ahead S w m (suc n) i ch v
  ahead_step {w} {m} {n} {i} {ch} {k} {v} few below a c = record {
    capped = λ p b h g. (c p b h g).capped;
    none = λ p b h g e t o. no_way_on p b h g e t o;
    some = λ p b h g e.
        let f = (c p b h g).found e in
        least_step n i p b (ch i p b) _ f.0 f.1.0 f.1.1.0
        (a.some (ch i p b) (b - S.rate i p (ch i p b)) f.0 (omega arith) (omega (arith, f.1.1.1))) (others p b h g e);
    cost = λ p b h g e.
        let f = (c p b h g).found e in
        omega (arith, f.1.1.1, a.cost (ch i p b) (b - S.rate i p (ch i p b)) f.0 (omega arith) (omega (arith, f.1.1.1)));
  }
    where
      -- a way on shows that what lies ahead of its first setting is below no_way
      alive : (q b : ℕ) (t : List ℕ) → q < S.settings → b < w → Way S n (suc i) q b t → k q b < no_way
      alive q b t h g o = by_order (dec_lt (k q b) no_way)
        where
          by_order : Dec (k q b < no_way) → k q b < no_way
          by_order (yes l) = l
          by_order (no l) = absurd (a.none q b h g (omega (arith, a.capped q b h g)) t o)

      no_way_on : (p b : ℕ) → p < m → b < w → v p b ≡ no_way → (t : List ℕ) → Way S (suc n) i p b t → ⊥
      no_way_on p b h g e [] o = omega (arith, o.long)
      no_way_on p b h g e (q ∷ t) o =
          let r = way_on o in
          let l : b - S.rate i p q < w = omega arith in
          let y = alive q (b - S.rate i p q) t o.kept.0 l r.1 in
          omega (
            arith,
            (c p b h g).least q o.kept.0 o.kept.1 r.0,
            a.cost q (b - S.rate i p q) o.kept.0 l y,
            then_le ((a.some q (b - S.rate i p q) o.kept.0 l y).ahead t r.1),
            below p (q ∷ t) (omega arith) o.long o.kept,
          )

      others : (p b : ℕ) → p < m → b < w → v p b < no_way → (q : ℕ) (t : List ℕ) → q < S.settings → S.may i p q → S.rate i p q ≤ b →
          Way S n (suc i) q (b - S.rate i p q) t →
          (s : List ℕ) × LeastWay n (suc i) q (b - S.rate i p q) s ×
          Prefer i p (ch i p b) (path S.rate ch n (suc i) (ch i p b) (b - S.rate i p (ch i p b))) q s
      others p b h g e q t l y r o =
          let j : b - S.rate i p q < w = omega arith in
          let u = alive q (b - S.rate i p q) t l j o in
          let f = (c p b h g).found e in
          let x = a.cost (ch i p b) (b - S.rate i p (ch i p b)) f.0 (omega arith) (omega (arith, f.1.1.1)) in
          let z = a.cost q (b - S.rate i p q) l j u in (
            path S.rate ch n (suc i) q (b - S.rate i p q),
            a.some q (b - S.rate i p q) l j u,
            prefer x z f.1.1.1 (dec_lt (v p b) (S.distortion i p q + k q (b - S.rate i p q))) (dec_lt q (ch i p b)),
          )
        where
          prefer : k (ch i p b) (b - S.rate i p (ch i p b)) ≡ total S.distortion (suc i) (ch i p b) (path S.rate ch n (suc i) (ch i p b) (b - S.rate i p (ch i p b))) →
              k q (b - S.rate i p q) ≡ total S.distortion (suc i) q (path S.rate ch n (suc i) q (b - S.rate i p q)) →
              v p b ≡ S.distortion i p (ch i p b) + k (ch i p b) (b - S.rate i p (ch i p b)) → Dec (v p b < S.distortion i p q + k q (b - S.rate i p q)) → Dec (q < ch i p b) →
              Prefer i p (ch i p b) (path S.rate ch n (suc i) (ch i p b) (b - S.rate i p (ch i p b))) q (path S.rate ch n (suc i) q (b - S.rate i p q))
          prefer x z f (yes d) s = lower (omega arith)
          prefer x z f (no d) (yes s) = absurd (omega (arith, (c p b h g).first e q l y r s))
          prefer x z f (no d) (no s) = tie (omega (arith, (c p b h g).least q l y r)) (omega arith)

  -- choices of earlier scans, and those after no setting or with more left than may be, play no part
  path_same : (ch ch' : ℕ → ℕ → ℕ → ℕ) (w n i p b : ℕ) → p < S.settings → b < w → Kept S i p (path S.rate ch n i p b) →
      ((j r c : ℕ) → i ≤ j → r < S.settings → c < w → ch j r c ≡ ch' j r c) → path S.rate ch n i p b ≡ path S.rate ch' n i p b
  path_same ch ch' w zero i p b h g k e = refl
  path_same ch ch' w (suc n) i p b h g k e =
      rw (← (e i p b (omega arith) h g))
      (ap (λ (s : List ℕ). ch i p b ∷ s)
      (path_same ch ch' w n (suc i) (ch i p b) (b - S.rate i p (ch i p b)) k.0 (omega arith) k.2 (λ j r c l m o. e j r c (omega arith) m o)))

  -- what lies ahead stands while choices of earlier scans are written
  pub ahead_frame : {w n i : ℕ} {ch ch' : ℕ → ℕ → ℕ → ℕ} {k k' : ℕ → ℕ → ℕ} → ((j r c : ℕ) → i ≤ j → r < S.settings → c < w → ch j r c ≡ ch' j r c) →
      ((p b : ℕ) → p < S.settings → b < w → k p b ≡ k' p b) → Ahead S w S.settings n i ch k → Ahead S w S.settings n i ch' k'
  ahead_frame {w} {n} {i} {ch} {ch'} {k} {k'} same same' a = record {
    capped = λ p b h g. rw (same' p b h g) at (a.capped p b h g);
    none = λ p b h g e. a.none p b h g (same' p b h g ∙ e);
    some = λ p b h g e. let l : k p b < no_way = omega (arith, same' p b h g) in rw (frame p b h g l) at (a.some p b h g l);
    cost = λ p b h g e. let l : k p b < no_way = omega (arith, same' p b h g) in sym (same' p b h g) ∙ (rw (frame p b h g l) at (a.cost p b h g l));
  }
    where
      frame : (p b : ℕ) → p < S.settings → b < w → k p b < no_way → path S.rate ch n i p b ≡ path S.rate ch' n i p b
      frame p b h g e = path_same ch ch' w n i p b h g (a.some p b h g e).one.kept same
