-- The beginnings of sequences: a sequence and one setting more behind it, a way on and its beginnings, and what a way on knows of the scans
-- that it goes by and of no other. Assumes nothing.
use mathlib.Core.Path.{◌≡◌, refl, ap}
use mathlib.Core.Logic.{◌⊎◌, inl, inr}
use mathlib.Core.List.{List, [], ◌∷◌, ◌++◌}
use Prim.Native.Nat.{ℕ, zero, suc, ◌+◌, ◌≤◌, ◌<◌}
use native.Mathlib.Nat.{eq-or-lt_of_le}
use native.Mathlib.Omega.{arith}
use lib.ListN.{length}
use Rattle.tables.specs.Series.{Series, Kept, total, Way, last_of}

-- a sequence that has settings has a last one
pub record Ended (k : ℕ) (s : List ℕ) : Type 0 where
  pub front : List ℕ
  pub last : ℕ
  pub is : s ≡ front ++ (last ∷ [])
  pub long : length front ≡ k

pub ends : (k : ℕ) (s : List ℕ) → length s ≡ suc k → Ended k s
ends k [] e = absurd (omega arith)
ends zero (q ∷ []) e = record { front = []; last = q; is = refl; long = refl }
ends zero (q ∷ r ∷ s) e = absurd (omega arith)
ends (suc k) (q ∷ s) e =
    let h = ends k s (omega arith) in
    record { front = q ∷ h.front; last = h.last; is = ap (λ (l : List ℕ). q ∷ l) h.is; long = ap suc h.long }

pub last_end : (p : ℕ) (s : List ℕ) (q : ℕ) → last_of p (s ++ (q ∷ [])) ≡ q
last_end p [] q = refl
last_end p (r ∷ s) q = last_end r s q

pub length_end : (s : List ℕ) (q : ℕ) → length (s ++ (q ∷ [])) ≡ suc (length s)
length_end [] q = refl
length_end (r ∷ s) q = ap suc (length_end s q)

pub total_end : (f : ℕ → ℕ → ℕ → ℕ) (i p : ℕ) (s : List ℕ) (q : ℕ) → total f i p (s ++ (q ∷ [])) ≡ total f i p s + f (i + length s) (last_of p s) q
total_end f i p [] q = let e : i + 0 ≡ i = omega arith in rw e (omega arith)
total_end f i p (r ∷ s) q =
    let e : i + suc (length s) ≡ suc i + length s = omega arith in
    let h = total_end f (suc i) r s q in
    rw e (omega (arith, h))

module _ (S : Series) where
  pub kept_end : (i p : ℕ) (s : List ℕ) (q : ℕ) → Kept S i p s → q < S.settings → S.may (i + length s) (last_of p s) q → Kept S i p (s ++ (q ∷ []))
  kept_end i p [] q k h m = let e : i + 0 ≡ i = omega arith in (h, rw e at m, tt)
  kept_end i p (r ∷ s) q k h m =
      let e : i + suc (length s) ≡ suc i + length s = omega arith in
      (k.0, k.1, kept_end (suc i) r s q k.2 h (rw e at m))

  pub end_kept : (i p : ℕ) (s : List ℕ) (q : ℕ) → Kept S i p (s ++ (q ∷ [])) → Kept S i p s × (q < S.settings) × S.may (i + length s) (last_of p s) q
  end_kept i p [] q k = let e : i + 0 ≡ i = omega arith in (tt, k.0, rw e k.1)
  end_kept i p (r ∷ s) q k =
      let e : i + suc (length s) ≡ suc i + length s = omega arith in
      let h = end_kept (suc i) r s q k.2 in
      ((k.0, k.1, h.0), h.1, rw e h.2)

  -- the last setting of some is below Q
  pub last_below : (i p : ℕ) (s : List ℕ) → p < S.settings → Kept S i p s → last_of p s < S.settings
  last_below i p [] h k = h
  last_below i p (q ∷ s) h k = last_below (suc i) q s k.0 k.2

  -- a way on has a beginning of one scan less, and so of as few as asked
  pub way_less : {n i p b : ℕ} {s : List ℕ} → Way S (suc n) i p b s → (t : List ℕ) × Way S n i p b t
  way_less {n} {i} {p} {b} {s} w =
      let h = ends n s w.long in
      let k : Kept S i p (h.front ++ (h.last ∷ [])) = rw h.is at w.kept in
      let f : total S.rate i p (h.front ++ (h.last ∷ [])) ≤ b = rw h.is at w.fits in
      (h.front, record { long = h.long; kept = (end_kept i p h.front h.last k).0; fits = omega (arith, f, total_end S.rate i p h.front h.last) })

  pub way_fewer : (n : ℕ) {m i p b : ℕ} {s : List ℕ} → m ≤ n → Way S n i p b s → (t : List ℕ) × Way S m i p b t
  way_fewer zero {m} {i} {p} {b} {s} h w = let e : m ≡ 0 = omega arith in (s, rw e w)
  way_fewer (suc n) {m} {i} {p} {b} {s} h w = of (way_less w) (λ t. way_fewer n {s = t}) (eq-or-lt_of_le h)
    where
      of : (t : List ℕ) × Way S n i p b t → ((t : List ℕ) → m ≤ n → Way S n i p b t → (u : List ℕ) × Way S m i p b u) → (m ≡ suc n) ⊎ (m < suc n) → (t : List ℕ) × Way S m i p b t
      of x fewer (inl e) = (s, rw e w)
      of x fewer (inr l) = fewer x.0 (omega arith) x.1

-- two series alike before scan n: what may be taken in the one may be taken in the other, at the same rate
pub record AlikeBefore (S S' : Series) (n : ℕ) : Type 0 where
  pub settings : S.settings ≡ S'.settings
  pub may : (i p q : ℕ) → i < n → p < S.settings → q < S.settings → S.may i p q → S'.may i p q
  pub rate : (i p q : ℕ) → i < n → p < S.settings → q < S.settings → S.rate i p q ≡ S'.rate i p q

module _ (S S' : Series) (n : ℕ) (alike : AlikeBefore S S' n) where
  kept_alike : (i p : ℕ) (s : List ℕ) → i + length s ≤ n → p < S.settings → Kept S i p s → Kept S' i p s
  kept_alike i p [] h l k = tt
  kept_alike i p (q ∷ s) h l k =
      (omega (arith, k.0, alike.settings), alike.may i p q (omega arith) l k.0 k.1, kept_alike (suc i) q s (omega arith) k.0 k.2)

  total_alike : (i p : ℕ) (s : List ℕ) → i + length s ≤ n → p < S.settings → Kept S i p s → total S.rate i p s ≡ total S'.rate i p s
  total_alike i p [] h l k = refl
  total_alike i p (q ∷ s) h l k =
      omega (arith, alike.rate i p q (omega arith) l k.0, total_alike (suc i) q s (omega arith) k.0 k.2)

  -- a way on in the one is a way on in the other
  pub way_alike : {m i p b : ℕ} {s : List ℕ} → i + m ≤ n → p < S.settings → Way S m i p b s → Way S' m i p b s
  way_alike {m} {i} {p} {b} {s} h l w = record {
    long = w.long;
    kept = kept_alike i p s (omega (arith, w.long)) l w.kept;
    fits = omega (arith, w.fits, total_alike i p s (omega (arith, w.long)) l w.kept);
  }
