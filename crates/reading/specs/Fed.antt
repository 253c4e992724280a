-- What is known of a text when a part of it has been read. Assumes nothing.
use Rattle.std.specs.Prelude.{◌≡◌, ◌⊎◌, true, false, List, [], ◌∷◌, ◌++◌, ℕ, suc, ◌≤◌, min, length, take}
use Rattle.std.proofs.Math.Option.{Option, none, some}
use Rattle.reading.specs.Text.{Open, between, digits, other, words, words_from, most_number}
use Rattle.reading.specs.declared.Word.{Word}
use Rattle.reading.specs.declared.Word.TheVariants.{Between, Digits, Other}
use Rattle.reading.specs.declared.State.{State}

-- the open word as it is held: the value of digits is cut off just past the limit
abbrev pub Shows : Word → Open → Type 0
Shows Between between = Unit {0}
Shows Between (digits x) = ⊥
Shows Between other = ⊥
Shows (Digits v) between = ⊥
Shows (Digits v) (digits x) = v ≡ min x (suc most_number)
Shows (Digits v) other = ⊥
Shows Other between = ⊥
Shows Other (digits x) = ⊥
Shows Other other = Unit {0}

-- words that are these numbers
abbrev pub as_words : List ℕ → List (Option ℕ)
as_words [] = []
as_words (x ∷ l) = some x ∷ as_words l

-- the numbers taken so far
abbrev pub taken_of : List ℕ → State → List ℕ
taken_of numbers s = take s.taken numbers

pub data Fed (text numbers : List ℕ) (s : State) : Type 0 where
  -- every word so far is a number and has been taken, and w stands open: so it is whatever follows
  so_far : (w : Open) → s.more ≡ false → s.taken ≤ length numbers → Shows s.word w →
      ((rest : List ℕ) → words (text ++ rest) ≡ as_words (taken_of numbers s) ++ words_from w rest) → Fed text numbers s
  -- the word after the numbers taken is none, or there is no room for it: so it is whatever follows
  stopped : (word : Option ℕ) → s.more ≡ true → s.taken ≤ length numbers → (word ≡ none) ⊎ (s.taken ≡ length numbers) →
      ((rest : List ℕ) → (later : List (Option ℕ)) × (words (text ++ rest) ≡ as_words (taken_of numbers s) ++ word ∷ later)) → Fed text numbers s

-- nothing is read yet
abbrev pub Starts : State → Type 0
Starts s = (numbers : List ℕ) → Fed [] numbers s

-- whatever the text was, the piece has been added to it
abbrev pub Feeds : (numbers piece : List ℕ) → State → (numbers' : List ℕ) → State → Type 0
Feeds numbers piece s numbers' s' = (text : List ℕ) → Fed text numbers s → Fed (text ++ piece) numbers' s'
