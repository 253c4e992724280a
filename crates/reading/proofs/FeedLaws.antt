-- What is known of a text with one more byte: a law for each kind of byte. Assumes nothing.
use mathlib.Core.Path.{◌≡◌, refl, sym, ap, subst, ◌∙◌}
use mathlib.Core.Logic.{◌⊎◌, inl, inr}
use mathlib.Core.Bool.{Bool, true, false, cond, true≢false}
use mathlib.Core.Option.{Option, none, some}
use mathlib.Core.List.{List, [], ◌∷◌, ◌++◌, append_assoc}
use Prim.Native.Nat.{ℕ, ◌+◌, ◌≤◌, ◌<◌}
use native.Mathlib.Omega.{arith}
use native.Mathlib.Numerals.{add-one}
use lib.ListN.{length, take, set, get_or, length-set}
use lib.Seq.{take-suc-set, take-suc}
use Rattle.reading.specs.Text.{Open, between, words, words_from, most_number, separator, grown, closed}
use Rattle.reading.specs.Fed.{Shows, as_words, taken_of, Fed, so_far, stopped, Starts, Feeds}
use Rattle.reading.specs.Parts.{Grows, Closes, refusal}
use Rattle.reading.specs.declared.Word.{Word}
use Rattle.reading.specs.declared.Word.TheVariants.{Between, Digits, Other}
use Rattle.reading.specs.declared.State.{State}
use Rattle.reading.proofs.WordLaws.{held_between, held_other, held_value, held_over, held_one, closed_value}

as_words_snoc : (l : List ℕ) (x : ℕ) → as_words (l ++ (x ∷ [])) ≡ as_words l ++ (some x ∷ [])
as_words_snoc [] x = refl
as_words_snoc (a ∷ l) x = ap (λ (t : List (Option ℕ)). some a ∷ t) (as_words_snoc l x)

-- with one more stored behind them
taken_more : (numbers : List ℕ) (n x : ℕ) → n < length numbers →
    as_words (take (n + 1) (set numbers n x)) ≡ as_words (take n numbers) ++ (some x ∷ [])
taken_more numbers n x h =
    ap (λ (k : ℕ). as_words (take k (set numbers n x))) (add-one n)
    ∙ ap as_words (take-suc-set numbers n x h)
    ∙ as_words_snoc (take n numbers) x

-- the words of a text, when those of it with every rest are known: before, and those of the rest where w stands open
Known : (text : List ℕ) (before : List (Option ℕ)) (w : Open) → Type 0
Known text before w = (rest : List ℕ) → words (text ++ rest) ≡ before ++ words_from w rest

more_text : (text rest : List ℕ) (c : ℕ) → words ((text ++ (c ∷ [])) ++ rest) ≡ words (text ++ (c ∷ rest))
more_text text rest c = ap words (append_assoc text (c ∷ []) rest)

-- no separator: the word grows
known_grown : (text : List ℕ) (before : List (Option ℕ)) (w : Open) (c : ℕ) → separator c ≡ false →
    Known text before w → Known (text ++ (c ∷ [])) before (grown w c)
unfolding Known
known_grown text before w c h k rest =
    more_text text rest c ∙ k (c ∷ rest)
    ∙ ap (λ (b : Bool). before ++ cond b (closed w ++ words_from between rest) (words_from (grown w c) rest)) h

-- a separator: the word is closed
known_closed : (text : List ℕ) (before : List (Option ℕ)) (w : Open) (c : ℕ) → separator c ≡ true →
    Known text before w → Known (text ++ (c ∷ [])) (before ++ closed w) between
unfolding Known
known_closed text before w c h k rest =
    more_text text rest c ∙ k (c ∷ rest)
    ∙ ap (λ (b : Bool). before ++ cond b (closed w ++ words_from between rest) (words_from (grown w c) rest)) h
    ∙ sym (append_assoc before (closed w) (words_from between rest))

-- nothing is read yet
pub starts : Starts (record { word = Between; taken = 0; more = false })
unfolding words
starts numbers = so_far between refl (omega arith) tt (λ rest. refl)

-- a word is not taken: it is no number, or there is no room for it
refuses : (text numbers : List ℕ) (s : State) (c : ℕ) (w : Open) (word : Option ℕ) → separator c ≡ true → s.taken ≤ length numbers →
    (word ≡ none) ⊎ (s.taken ≡ length numbers) → closed w ≡ word ∷ [] →
    Known text (as_words (taken_of numbers s)) w → Fed (text ++ (c ∷ [])) numbers (refusal s)
unfolding Known
refuses text numbers s c w word h t p o k =
    stopped word refl t p
    (λ rest. (
      words_from between rest,
      known_closed text (as_words (taken_of numbers s)) w c h k rest
          ∙ ap (λ (u : List (Option ℕ)). (as_words (taken_of numbers s) ++ u) ++ words_from between rest) o
          ∙ append_assoc (as_words (taken_of numbers s)) (word ∷ []) (words_from between rest),
    ))

module _ {numbers : List ℕ} {s : State} where
  -- nothing changes any more
  pub feeds_kept : (piece : List ℕ) → s.more ≡ true → Feeds numbers piece s numbers s
  feeds_kept piece m text (so_far w e t p k) = absurd (true≢false (sym m ∙ e))
  feeds_kept piece m text (stopped word e t p k) =
      stopped word e t p (λ rest. ((k (piece ++ rest)).0, rw append_assoc (k (piece ++ rest)).1))

  -- the open word grows
  pub feeds_grown : (c : ℕ) {w' : Word} → separator c ≡ false → s.more ≡ false → Grows s.word c w' →
      Feeds numbers (c ∷ []) s numbers (record { word = w'; taken = s.taken; more = s.more })
  unfolding Known
  feeds_grown c h m g text (so_far w e t p k) = so_far (grown w c) e t (g w p) (known_grown text (as_words (taken_of numbers s)) w c h k)
  feeds_grown c h m g text (stopped word e t p k) = absurd (true≢false (sym e ∙ m))

  -- a separator where no word stands open
  pub closes_between : s.word ≡ Between → Closes numbers s numbers s
  unfolding Known
  closes_between b text c h m (so_far w e t p k) =
      let o = held_between w (subst (λ (v : Word). Shows v w) b p) in
      so_far between e t (subst (λ (v : Open). Shows s.word v) o p)
      (λ rest. known_closed text (as_words (taken_of numbers s)) w c h k rest
      ∙ ap (λ (v : Open). (as_words (taken_of numbers s) ++ closed v) ++ words_from between rest) o
      ∙ append_assoc (as_words (taken_of numbers s)) [] (words_from between rest))
  closes_between b text c h m (stopped word e t p k) = absurd (true≢false (sym e ∙ m))

  -- a number is taken
  pub closes_number : {v : ℕ} → s.word ≡ Digits v → v ≤ most_number → s.taken < length numbers →
      Closes numbers s (set numbers s.taken v) (record { word = Between; taken = s.taken + 1; more = s.more })
  unfolding Known
  closes_number {v} b l r text c h m (so_far w e t p k) =
      let o = held_value v w l (subst (λ (u : Word). Shows u w) b p) in
      so_far between e (rw (length-set numbers s.taken v) (omega arith)) tt
      (λ rest. known_closed text (as_words (taken_of numbers s)) w c h k rest
      ∙ ap (λ (u : List (Option ℕ)). (as_words (taken_of numbers s) ++ u) ++ words_from between rest) (ap closed o ∙ closed_value v l)
      ∙ ap (λ (u : List (Option ℕ)). u ++ words_from between rest) (sym (taken_more numbers s.taken v r)))
  closes_number b l r text c h m (stopped word e t p k) = absurd (true≢false (sym e ∙ m))

  -- one with another byte in it
  pub closes_other : s.word ≡ Other → Closes numbers s numbers (refusal s)
  unfolding Known
  closes_other b text c h m (so_far w e t p k) =
      refuses text numbers s c w none h t (inl refl) (ap closed (held_other w (subst (λ (u : Word). Shows u w) b p))) k
  closes_other b text c h m (stopped word e t p k) = absurd (true≢false (sym e ∙ m))

  -- one over the limit
  pub closes_over : {v : ℕ} → s.word ≡ Digits v → most_number < v → Closes numbers s numbers (refusal s)
  unfolding Known
  closes_over {v} b l text c h m (so_far w e t p k) =
      refuses text numbers s c w none h t (inl refl) (held_over v w l (subst (λ (u : Word). Shows u w) b p)) k
  closes_over b l text c h m (stopped word e t p k) = absurd (true≢false (sym e ∙ m))

  -- one for which there is no room
  pub closes_full : {v : ℕ} → s.word ≡ Digits v → length numbers ≤ s.taken → Closes numbers s numbers (refusal s)
  unfolding Known
  closes_full {v} b l text c h m (so_far w e t p k) =
      let o = held_one v w (subst (λ (u : Word). Shows u w) b p) in
      refuses text numbers s c w o.0 h t (inr (omega arith)) o.1 k
  closes_full b l text c h m (stopped word e t p k) = absurd (true≢false (sym e ∙ m))

-- one more byte of the piece
pub feeds_more : {numbers numbers₁ numbers₂ : List ℕ} {s s₁ s₂ : State} (piece : List ℕ) (i : ℕ) → i < length piece → Feeds numbers (take i piece) s numbers₁ s₁ →
    Feeds numbers₁ (get_or piece i 0 ∷ []) s₁ numbers₂ s₂ → Feeds numbers (take (i + 1) piece) s numbers₂ s₂
feeds_more {numbers₂ = numbers₂} {s₂ = s₂} piece i h before here text f =
    subst (λ (t : List ℕ). Fed t numbers₂ s₂)
    (append_assoc text (take i piece) (get_or piece i 0 ∷ [])
    ∙ ap (λ (l : List ℕ). text ++ l) (sym (take-suc piece i 0 h) ∙ ap (λ (n : ℕ). take n piece) (sym (add-one i))))
    (here (text ++ take i piece) (before text f))
