-- The numbers of a text. Assumes nothing.
use Rattle.std.specs.Prelude.{Bool, cond, ◌||◌, ◌&&◌, List, [], ◌∷◌, ◌++◌, ℕ, ◌+◌, ◌-◌, ◌*◌, eqb, ltb, leb}
use Rattle.std.proofs.Math.Option.{Option, none, some}

-- "whole numbers up to 4,294,967,295"
abbrev pub most_number : ℕ
most_number = 4294967295

-- "parted by runs of spaces, tabs, CR or LF"
abbrev pub separator : ℕ → Bool
separator c = eqb c 32 || eqb c 9 || eqb c 13 || eqb c 10

abbrev pub digit : ℕ → Bool
digit c = leb 48 c && leb c 57

-- A word is a run of bytes with no separator among them. The word that stands open where a text is cut: none, digits alone with their
-- value, or one with another byte in it.
pub data Open : Type 0 where
  between : Open
  digits : ℕ → Open
  other : Open

-- a further byte of the word
abbrev pub grown : Open → ℕ → Open
grown between c = cond (digit c) (digits (c - 48)) other
grown (digits x) c = cond (digit c) (digits (10 * x + (c - 48))) other
grown other c = other

-- A word is a number, if it is of digits alone and not over the limit; `none` is "one over the limit, or any other text".
abbrev pub closed : Open → List (Option ℕ)
closed between = []
closed (digits x) = cond (ltb most_number x) none (some x) ∷ []
closed other = none ∷ []

-- the words from here on, where w stands open; the end of the text ends a word as a separator does
abbrev pub words_from : Open → List ℕ → List (Option ℕ)
words_from w [] = closed w
words_from w (c ∷ text) = cond (separator c) (closed w ++ words_from between text) (words_from (grown w c) text)

-- the words of a text, in order: each a number, or none
unfoldable pub words : List ℕ → List (Option ℕ)
words text = words_from between text
