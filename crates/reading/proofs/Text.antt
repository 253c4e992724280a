-- The words of a text: its end ends a word as a separator does, what they are when all of it has been fed, and worked examples.
-- Assumes nothing.
use mathlib.Core.Path.{◌≡◌, refl, sym, ap, subst, ◌∙◌}
use mathlib.Core.Bool.{Bool, true, false, cond, true≢false}
use mathlib.Core.Option.{Option, none, some}
use mathlib.Core.List.{List, [], ◌∷◌, ◌++◌, append-nil}
use Prim.Native.Nat.{ℕ}
use Rattle.reading.specs.Text.{Open, between, words, words_from, separator, grown, closed}
use Rattle.reading.specs.Fed.{Shows, as_words, taken_of, Fed, so_far, stopped}
use Rattle.reading.specs.declared.Word.{Word}
use Rattle.reading.specs.declared.Word.TheVariants.{Between}
use Rattle.reading.specs.declared.State.{State}
use Rattle.reading.proofs.WordLaws.{held_between}

-- so it is whatever word stands open
ends_from : (c : ℕ) → separator c ≡ true → (text : List ℕ) (w : Open) → words_from w (text ++ (c ∷ [])) ≡ words_from w text
ends_from c h [] w =
    ap (λ (b : Bool). cond b (closed w ++ words_from between []) (words_from (grown w c) [])) h ∙ append-nil (closed w)
ends_from c h (a ∷ text) w =
    ap (λ (l : List (Option ℕ)). cond (separator a) (closed w ++ l) (words_from (grown w a) (text ++ (c ∷ [])))) (ends_from c h text between)
    ∙ ap (λ (l : List (Option ℕ)). cond (separator a) (closed w ++ words_from between text) l) (ends_from c h text (grown w a))

-- for every separator
pub ends_as : (c : ℕ) → separator c ≡ true → (text : List ℕ) → words (text ++ (c ∷ [])) ≡ words text
unfolding words
ends_as c h text = ends_from c h text between

-- for a space
pub ends_as_separator : (text : List ℕ) → words (text ++ (32 ∷ [])) ≡ words text
ends_as_separator text = ends_as 32 refl text

-- where no word stands open and none was refused, the words are the numbers taken
pub fed_words : {text numbers : List ℕ} {s : State} → Fed text numbers s → s.more ≡ false → s.word ≡ Between →
    words text ≡ as_words (taken_of numbers s)
fed_words {text} {numbers} {s} (so_far w e t p k) m b =
    ap words (sym (append-nil text)) ∙ k []
    ∙ ap (λ (v : Open). as_words (taken_of numbers s) ++ closed v) (held_between w (subst (λ (v : Word). Shows v w) b p))
    ∙ append-nil (as_words (taken_of numbers s))
fed_words (stopped word e t p k) m b = absurd (true≢false (sym e ∙ m))

-- "2 2 0 17"
pub four_numbers : words (50 ∷ 32 ∷ 50 ∷ 32 ∷ 48 ∷ 32 ∷ 49 ∷ 55 ∷ []) ≡ some 2 ∷ some 2 ∷ some 0 ∷ some 17 ∷ []
unfolding words
four_numbers = refl

-- "17x"
pub letter_behind : words (49 ∷ 55 ∷ 120 ∷ []) ≡ none ∷ []
unfolding words
letter_behind = refl

-- "+1"
pub plus_sign : words (43 ∷ 49 ∷ []) ≡ none ∷ []
unfolding words
plus_sign = refl

-- "-0"
pub minus_sign : words (45 ∷ 48 ∷ []) ≡ none ∷ []
unfolding words
minus_sign = refl

-- "007\t4294967295\r\n": zeros in front, a tab, the limit, an ended line
pub at_the_limit :
    words (48 ∷ 48 ∷ 55 ∷ 9 ∷ 52 ∷ 50 ∷ 57 ∷ 52 ∷ 57 ∷ 54 ∷ 55 ∷ 50 ∷ 57 ∷ 53 ∷ 13 ∷ 10 ∷ []) ≡ some 7 ∷ some 4294967295 ∷ []
unfolding words
at_the_limit = refl

-- "4294967296"
pub over_the_limit : words (52 ∷ 50 ∷ 57 ∷ 52 ∷ 57 ∷ 54 ∷ 55 ∷ 50 ∷ 57 ∷ 54 ∷ []) ≡ none ∷ []
unfolding words
over_the_limit = refl

-- a word over the limit is one word, and what follows is judged anew: "4294967296 1"
pub behind_one_over : words (52 ∷ 50 ∷ 57 ∷ 52 ∷ 57 ∷ 54 ∷ 55 ∷ 50 ∷ 57 ∷ 54 ∷ 32 ∷ 49 ∷ []) ≡ none ∷ some 1 ∷ []
unfolding words
behind_one_over = refl

pub no_text : words [] ≡ []
unfolding words
no_text = refl

-- " \t\r\n "
pub blanks : words (32 ∷ 9 ∷ 13 ∷ 10 ∷ 32 ∷ []) ≡ []
unfolding words
blanks = refl
