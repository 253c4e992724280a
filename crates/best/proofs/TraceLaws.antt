-- Along the choices within a budget: one setting after another, and the sequence as a pass would leave it. Assumes nothing.
use mathlib.Core.Path.{◌≡◌, refl, sym, ap, ◌∙◌}
use mathlib.Core.List.{List, [], ◌∷◌}
use Prim.Native.Nat.{ℕ, zero, suc, ◌+◌, ◌-◌, ◌*◌, ◌≤◌, ◌<◌}
use native.Mathlib.Numerals.{add-one}
use native.Mathlib.Decide.{ℕ_discrete}
use native.Mathlib.Omega.{arith}
use lib.ListN.{length, get_or, drop}
use lib.Seq.{drop-cons}
use Rattle.tables.specs.Series.{total}
use Rattle.tables.specs.Tables.{scratch_need}
use Rattle.tables.proofs.CellLaws.{need_is}
use Rattle.trellis.specs.Choices.{choice, ChoiceStored, walk}
use Rattle.within.specs.Ways.{path}
use Rattle.within.specs.Filled.{choice_at}
use Rattle.best.specs.Traced.{rate_of, traced, Followable, Retraced}
use Rattle.best.proofs.NeedLaws.{pass_before}

-- what is not so before b, and not at b, is not so before b + 1
pub none_more : (P : ℕ → Type 0) (b : ℕ) → ((j : ℕ) → j < b → P j → ⊥) → (P b → ⊥) → (j : ℕ) → j < b + 1 → P j → ⊥
none_more P b h g j l = by_place (ℕ_discrete j b)
  where
    by_place : Dec (j ≡ b) → P j → ⊥
    by_place (yes e) p = g (rw e at p)
    by_place (no e) p = h j (omega arith) p

-- a sequence along the choices is as long as was asked
pub length_path : (rate ch : ℕ → ℕ → ℕ → ℕ) (n i p b : ℕ) → length (path rate ch n i p b) ≡ n
length_path rate ch zero i p b = refl
length_path rate ch (suc n) i p b = ap suc (length_path rate ch n (suc i) (ch i p b) (b - rate i p (ch i p b)))

-- at scan i of a sequence s the choices lead on to what is left of it
pub path_on : (rate ch : ℕ → ℕ → ℕ → ℕ) (n m i p b : ℕ) (s : List ℕ) → n ≡ suc m → i < length s → drop i s ≡ path rate ch n i p b →
    (ch i p b ≡ get_or s i 0) × (drop (i + 1) s ≡ path rate ch m (i + 1) (ch i p b) (b - rate i p (ch i p b)))
path_on rate ch n m i p b s e l h =
    let g : get_or s i 0 ∷ drop (suc i) s ≡ ch i p b ∷ path rate ch m (suc i) (ch i p b) (b - rate i p (ch i p b)) =
    sym (drop-cons s i 0 l) ∙ h ∙ ap (λ (k : ℕ). path rate ch k i p b) e in
    rw add-one (cc, cc)

-- what is left of a budget is enough for what is left of a sequence
pub left_on : (rate : ℕ → ℕ → ℕ → ℕ) (i p b : ℕ) (s : List ℕ) → i < length s → total rate i p (drop i s) ≤ b →
    (rate i p (get_or s i 0) ≤ b) × (total rate (i + 1) (get_or s i 0) (drop (i + 1) s) ≤ b - rate i p (get_or s i 0))
left_on rate i p b s l h =
    let g : total rate i p (get_or s i 0 ∷ drop (suc i) s) ≤ b = rw (drop-cons s i 0 l) at h in
    rw add-one (omega arith, omega arith)

-- a sequence each of whose settings is the choice after the one before it is what the choices lead to
pub walk_is : (ch : ℕ → ℕ → ℕ) (n i p : ℕ) (s : List ℕ) → length s ≡ n → ((j : ℕ) → j < n → ch (i + j) (get_or (p ∷ s) j 0) ≡ get_or s j 0) → walk ch n i p ≡ s
walk_is ch zero i p [] e h = refl
walk_is ch zero i p (q ∷ s) e h = absurd (omega arith)
walk_is ch (suc n) i p [] e h = absurd (omega arith)
walk_is ch (suc n) i p (q ∷ s) e h =
    let z : i + 0 ≡ i = omega arith in
    let f : ch i p ≡ q = rw z at (h 0 (omega arith)) in
    rw f (ap (λ (t : List ℕ). q ∷ t) (walk_is ch n (suc i) q s (omega arith) (λ j l. let y : suc i + j ≡ i + suc j = omega arith in rw y (h (suc j) (omega arith)))))

-- The sequence s of N settings is followed: the settings before scan i are stored as a pass would store them, those from scan i on are where
-- they were, p is the setting before scan i, and b is left, which is enough for the rest.
pub record Along (N Q w left : ℕ) (rates choices₀ choices : List ℕ) (p b i : ℕ) : Type 0 where
  pub stored : (j : ℕ) → j < i → choice Q choices j (get_or (0 ∷ traced N Q w left rates choices₀) j 0) ≡ get_or (traced N Q w left rates choices₀) j 0
  pub before : p ≡ get_or (0 ∷ traced N Q w left rates choices₀) i 0
  pub few : i < N → p < Q
  pub within : b < w
  pub rest : drop i (traced N Q w left rates choices₀) ≡ path (rate_of Q rates) (choice_at Q w choices₀) (N - i) i p b
  pub fits : total (rate_of Q rates) i p (drop i (traced N Q w left rates choices₀)) ≤ b
  pub unmoved : (k : ℕ) → scratch_need i Q ≤ k → get_or choices k 0 ≡ get_or choices₀ k 0
  pub long : length choices ≡ length choices₀

module _ (N Q w left : ℕ) (rates choices₀ : List ℕ) (follow : Followable Q left rates (traced N Q w left rates choices₀)) where
  abbrev s : List ℕ
  s = traced N Q w left rates choices₀

  long_s : length s ≡ N
  long_s = length_path (rate_of Q rates) (choice_at Q w choices₀) N 0 0 left

  pub along_none : 1 ≤ Q → left < w → Along N Q w left rates choices₀ choices₀ 0 left 0
  along_none h l = record {
    stored = λ j g. absurd (omega arith);
    before = refl;
    few = λ g. h;
    within = l;
    rest = let e : N ≡ N - 0 = omega arith in ap (λ (n : ℕ). path (rate_of Q rates) (choice_at Q w choices₀) n 0 0 left) e;
    fits = follow.fits;
    unmoved = λ k g. refl;
    long = refl;
  }

  module _ {choices : List ℕ} {p b i : ℕ} (l : i < N) (a : Along N Q w left rates choices₀ choices p b i) where
    step : (choice_at Q w choices₀ i p b ≡ get_or s i 0) × (drop (i + 1) s ≡ path (rate_of Q rates) (choice_at Q w choices₀) (N - (i + 1)) (i + 1) (choice_at Q w choices₀ i p b) (b - rate_of Q rates i p (choice_at Q w choices₀ i p b)))
    step = path_on (rate_of Q rates) (choice_at Q w choices₀) (N - i) (N - (i + 1)) i p b s (omega arith) (omega (arith, long_s)) a.rest

    -- the choice that is read, which no store has reached, is the setting of scan i
    pub read_is : 1 ≤ w → get_or choices (i * (Q * w) + (p * w + b)) 0 ≡ get_or s i 0
    read_is h = a.unmoved (i * (Q * w) + (p * w + b)) (omega (arith, pass_before i Q w h)) ∙ step.0

    pub setting_below : get_or s i 0 < Q
    setting_below = follow.settings i (omega (arith, long_s))

    enough : (rate_of Q rates i p (get_or s i 0) ≤ b) × (total (rate_of Q rates) (i + 1) (get_or s i 0) (drop (i + 1) s) ≤ b - rate_of Q rates i p (get_or s i 0))
    enough = left_on (rate_of Q rates) i p b s (omega (arith, long_s)) a.fits

    pub rate_fits : rate_of Q rates i p (get_or s i 0) ≤ b
    rate_fits = enough.0

    -- the setting before scan j + 1 is that of scan j
    after : (j : ℕ) → get_or (0 ∷ s) (j + 1) 0 ≡ get_or s j 0
    after j = rw add-one refl

    pub along_more : {choices' : List ℕ} → ChoiceStored Q i p (get_or s i 0) choices choices' →
        Along N Q w left rates choices₀ choices' (get_or s i 0) (b - rate_of Q rates i p (get_or s i 0)) (i + 1)
    along_more {choices'} c = record {
      stored = λ j g. by_place j g (ℕ_discrete j i);
      before = sym (after i);
      few = λ g. setting_below;
      within = omega (arith, a.within);
      rest = rw step.0 at step.1;
      fits = enough.1;
      unmoved = λ k g. c.beyond (i + 1) k (omega arith) g ∙ a.unmoved k (omega (arith, need_up));
      long = c.long ∙ a.long;
    }
      where
        need_up : scratch_need i Q ≤ scratch_need (i + 1) Q
        need_up = omega (arith, need_is i Q, need_is (i + 1) Q)

        -- a setting before is below Q too
        before_below : (j : ℕ) → j < i → get_or (0 ∷ s) j 0 < Q
        before_below zero g = omega (arith, setting_below)
        before_below (suc j) g = follow.settings j (omega (arith, long_s))

        by_place : (j : ℕ) → j < i + 1 → Dec (j ≡ i) → choice Q choices' j (get_or (0 ∷ s) j 0) ≡ get_or s j 0
        by_place j g (yes e) = rw (e, ← a.before) c.here
        by_place j g (no e) = c.others j (get_or (0 ∷ s) j 0) (before_below j (omega arith)) (λ x y. e x) ∙ a.stored j (omega arith)

  -- after the last scan the sequence stands as a pass would leave it
  pub along_all : {choices : List ℕ} {p b : ℕ} → Along N Q w left rates choices₀ choices p b N → Retraced N Q s choices₀ choices
  along_all {choices} a = record {
    stands = walk_is (choice Q choices) N 0 0 s long_s (λ j l. let z : 0 + j ≡ j = omega arith in rw z (a.stored j l));
    framed = record { long = a.long; rest = a.unmoved };
  }
