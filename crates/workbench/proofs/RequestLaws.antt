-- What a text asks, from the numbers that were taken of it. Assumes nothing.
use mathlib.Core.Path.{◌≡◌, refl, sym, ap, ◌∙◌}
use mathlib.Core.Logic.{◌⊎◌, inl, inr}
use mathlib.Core.Bool.{Bool, true, false, cond, ◌||◌, ◌&&◌}
use mathlib.Core.Option.{Option, none, some}
use mathlib.Core.List.{List, [], ◌∷◌, ◌++◌, append-nil, append_assoc}
use Prim.Native.Nat.{ℕ, zero, suc, ◌+◌, ◌*◌, ◌≤◌, ◌<◌, min}
use native.Mathlib.Omega.{arith}
use lib.Dec.{ltb, leb}
use lib.ListN.{length, get_or, take, drop, length-append, length-take, length-drop}
use lib.Seq.{take_all}
use borrow.Author.Tests.{eqb-true, eq-eqb, ltb-true, ltb-false, leb-true}
use Rattle.tables.specs.declared.refusal.Refusal.TheVariants as refusal
use Rattle.tables.specs.Tables.{cells}
use Rattle.checks.specs.Checks.{when, or_else}
use Rattle.checks.specs.Planning.{scans_out, settings_out}
use Rattle.tables.specs.Law.{law_out}
use Rattle.laws.proofs.Tests.{never, both}
use Rattle.reading.specs.Text.{Open, between, digits, other, words, words_from, closed, grown, separator}
use Rattle.reading.specs.Fed.{Fed, so_far, stopped, as_words, taken_of}
use Rattle.reading.specs.declared.State.{State}
use Rattle.reading.proofs.Text.{ends_as_separator}
use Rattle.workbench.specs.Request.{Request, bad_input, too_large, to_plan, request, first, add, most_cells, range_refusal, with_cells, with_rest, with_four, in_range}
use Rattle.workbench.specs.Done.{settles, Decided}

-- none of the words from here on can be taken for a number
abbrev pub Barred : List (Option ℕ) → Type 0
Barred ws = (j : ℕ) → first (suc j) ws ≡ none

pub words_length : (l : List ℕ) → length (as_words l) ≡ length l
words_length [] = refl
words_length (x ∷ l) = ap suc (words_length l)

pub first_taken : (k : ℕ) (l : List ℕ) (ws : List (Option ℕ)) → k ≤ length l → first k (as_words l ++ ws) ≡ some (take k l)
first_taken zero l ws h = refl
first_taken (suc k) [] ws h = absurd (omega arith)
first_taken (suc k) (x ∷ l) ws h = ap (λ (o : Option (List ℕ)). add x o) (first_taken k l ws (omega arith))

pub first_barred : (k : ℕ) (l : List ℕ) (ws : List (Option ℕ)) → length l < k → Barred ws → first k (as_words l ++ ws) ≡ none
first_barred zero l ws h b = absurd (omega arith)
first_barred (suc k) [] ws h b = b k
first_barred (suc k) (x ∷ l) ws h b = ap (λ (o : Option (List ℕ)). add x o) (first_barred k l ws (omega arith) b)

-- what the first four numbers settle, where a is asked if they are in range and the table is not too large
abbrev pub settled : List ℕ → Request → Request
settled n a =
    in_range (range_refusal (get_or n 0 0) (get_or n 1 0) (get_or n 2 0)) (cond (ltb most_cells (cells (get_or n 0 0)
    (get_or n 1 0))) too_large a)

abbrev pub rest_requested : List ℕ → List (Option ℕ) → Request
rest_requested n ws = with_rest (get_or n 0 0) (get_or n 1 0) (get_or n 2 0) (get_or n 3 0) ws

abbrev pub request_of : List (Option ℕ) → Request
request_of ws = with_four (first 4 ws) (drop 4 ws)

pub by_words : (text : List ℕ) {ws : List (Option ℕ)} → words text ≡ ws → request text ≡ request_of ws
unfolding request
by_words text e = ap (λ (ws : List (Option ℕ)). request_of ws) e

pub four_given : (n : List ℕ) (t : ℕ) (ws : List (Option ℕ)) → 4 ≤ t → t ≤ length n →
    request_of (as_words (take t n) ++ ws) ≡ settled n (rest_requested n (as_words (drop 4 (take t n)) ++ ws))
four_given n zero ws h g = absurd (omega arith)
four_given n (suc zero) ws h g = absurd (omega arith)
four_given n (suc (suc zero)) ws h g = absurd (omega arith)
four_given n (suc (suc (suc zero))) ws h g = absurd (omega arith)
four_given [] (suc (suc (suc (suc t)))) ws h g = absurd (omega arith)
four_given (a ∷ []) (suc (suc (suc (suc t)))) ws h g = absurd (omega arith)
four_given (a ∷ b ∷ []) (suc (suc (suc (suc t)))) ws h g = absurd (omega arith)
four_given (a ∷ b ∷ c ∷ []) (suc (suc (suc (suc t)))) ws h g = absurd (omega arith)
four_given (a ∷ b ∷ c ∷ d ∷ n) (suc (suc (suc (suc t)))) ws h g = refl

pub too_few : (n : List ℕ) (t : ℕ) (ws : List (Option ℕ)) → t < 4 → Barred ws → request_of (as_words (take t n) ++ ws) ≡ bad_input
too_few n t ws h b =
    let l = take t n in
    ap (λ (o : Option (List ℕ)). with_four o (drop 4 (as_words l ++ ws)))
    (first_barred 4 l ws (let k : length l ≡ min t (length n) = length-take t n in omega arith) b)

-- what is asked beyond the first four matters only where the table is not too large
pub settled_same : (n : List ℕ) (a b : Request) → (cells (get_or n 0 0) (get_or n 1 0) ≤ most_cells → a ≡ b) → settled n a ≡ settled n b
settled_same n a b f = ap (λ (x : Request). in_range (range_refusal (get_or n 0 0) (get_or n 1 0) (get_or n 2 0)) x) (by_size _ (λ e. f
    (ltb-false _ _ e)))
  where
    by_size : (large : Bool) → (large ≡ false → a ≡ b) → cond large too_large a ≡ cond large too_large b
    by_size true g = refl
    by_size false g = g refl

-- where they settle what is asked, nothing beyond them matters
pub settled_whatever : (n : List ℕ) (a b : Request) → settles n ≡ true → settled n a ≡ settled n b
settled_whatever n a b e = by_tests (scans_out (get_or n 0 0)) (settings_out (get_or n 1 0)) (law_out (get_or n 2 0)) _ e
  where
    by_tests : (p q r l : Bool) → (p || q || r || l) ≡ true →
        in_range (or_else (when p refusal.Scans) (or_else (when q refusal.Settings) (or_else (when r refusal.StepLaw) none))) (cond l too_large a)
        ≡ in_range (or_else (when p refusal.Scans) (or_else (when q refusal.Settings) (or_else (when r refusal.StepLaw) none))) (cond l too_large b)
    by_tests true q r l e = refl
    by_tests false true r l e = refl
    by_tests false false true l e = refl
    by_tests false false false true e = refl
    by_tests false false false false e = never (cc)

-- they are bad input if they are not so many as the cells, or if not all of them are numbers
bad_unless : (b : Bool) (a : Request) → (b ≡ true → a ≡ bad_input) → cond b a bad_input ≡ bad_input
bad_unless true a f = f refl
bad_unless false a f = refl

-- a word that is no number, or one beyond those of the largest table
pub rest_stopped : (n m : List ℕ) (word : Option ℕ) (later : List (Option ℕ)) → (word ≡ none) ⊎ (8192 ≤ length m) →
    cells (get_or n 0 0) (get_or n 1 0) ≤ most_cells → rest_requested n (as_words m ++ word ∷ later) ≡ bad_input
rest_stopped n m word later (inl e) h =
    bad_unless _ _
    (λ q.
    let k = 2 * cells (get_or n 0 0) (get_or n 1 0) in
    let z : length (as_words m ++ word ∷ later) ≡ k = eqb-true _ _ q in
    let short : length m < k = omega (arith, length-append (as_words m) (word ∷ later), words_length m) in
    ap (λ (o : Option (List ℕ)). with_cells (get_or n 0 0) (get_or n 1 0) (get_or n 2 0) (get_or n 3 0) o)
    (first_barred k m (word ∷ later) short (λ j. rw e)))
rest_stopped n m word later (inr e) h =
    bad_unless _ _
    (λ q.
    let z : length (as_words m ++ word ∷ later) ≡ 2 * cells (get_or n 0 0) (get_or n 1 0) = eqb-true _ _ q in
    absurd (omega (arith, length-append (as_words m) (word ∷ later), words_length m)))

-- not so many as the cells
pub rest_other : (n m : List ℕ) → (length m ≡ 2 * cells (get_or n 0 0) (get_or n 1 0) → ⊥) → rest_requested n (as_words m ++ []) ≡ bad_input
rest_other n m f =
    bad_unless _ _
    (λ q.
    let z : length (as_words m ++ []) ≡ 2 * cells (get_or n 0 0) (get_or n 1 0) = eqb-true _ _ q in
    absurd (f (omega (arith, length-append (as_words m) [], words_length m))))

-- the cells of both tables
pub rest_cells : (n m : List ℕ) → length m ≡ 2 * cells (get_or n 0 0) (get_or n 1 0) →
    let k = cells (get_or n 0 0) (get_or n 1 0) in
    rest_requested n (as_words m ++ []) ≡ to_plan (get_or n 0 0) (get_or n 1 0) (get_or n 2 0) (get_or n 3 0) (take k m) (drop k m)
rest_cells n m e =
    let k = 2 * cells (get_or n 0 0) (get_or n 1 0) in
    let w = with_cells (get_or n 0 0) (get_or n 1 0) (get_or n 2 0) (get_or n 3 0) in
    let long : length (as_words m ++ []) ≡ k = omega (arith, length-append (as_words m) [], words_length m) in
    ap (λ (b : Bool). cond b (w (first k (as_words m ++ []))) bad_input) (eq-eqb _ _ long)
    ∙ ap (λ (o : Option (List ℕ)). w o) (first_taken k m [] (omega arith))
    ∙ ap (λ (l : List ℕ). w (some l)) (take_all k m (omega arith))

-- a word that cannot be taken: what is asked, whatever follows
abbrev pub stop_requested : List ℕ → ℕ → Request
stop_requested n t = cond (ltb t 4) bad_input (settled n bad_input)

stop_four : (n : List ℕ) (t : ℕ) (word : Option ℕ) (later : List (Option ℕ)) → 8196 ≤ length n → t ≤ length n → (word ≡ none) ⊎ (t ≡ length n) →
    4 ≤ t → request_of (as_words (take t n) ++ word ∷ later) ≡ settled n bad_input
stop_four n t word later len h w g =
    four_given n t (word ∷ later) g h
    ∙ settled_same n _ bad_input (rest_stopped n (drop 4 (take t n)) word later (beyond w))
  where
    beyond : (word ≡ none) ⊎ (t ≡ length n) → (word ≡ none) ⊎ (8192 ≤ length (drop 4 (take t n)))
    beyond (inl e) = inl e
    beyond (inr e) = inr (omega (arith, length-drop 4 (take t n), length-take t n))

stop_barred : (n : List ℕ) (t : ℕ) (word : Option ℕ) (later : List (Option ℕ)) → 8196 ≤ length n → (word ≡ none) ⊎ (t ≡ length n) → t < 4 →
    Barred (word ∷ later)
stop_barred n t word later len (inl e) g = λ j. rw e
stop_barred n t word later len (inr e) g = absurd (omega arith)

stop_words : (n : List ℕ) (t : ℕ) (word : Option ℕ) (later : List (Option ℕ)) → 8196 ≤ length n → t ≤ length n → (word ≡ none) ⊎ (t ≡ length n) →
    request_of (as_words (take t n) ++ word ∷ later) ≡ stop_requested n t
stop_words n t word later len h w = by_few (ltb t 4) refl
  where
    by_few : (few : Bool) → ltb t 4 ≡ few → request_of (as_words (take t n) ++ word ∷ later) ≡ cond few bad_input (settled n bad_input)
    by_few true e = too_few n t (word ∷ later) (omega (arith, ltb-true t 4 e)) (stop_barred n t word later len w (ltb-true t 4 e))
    by_few false e = stop_four n t word later len h w (ltb-false t 4 e)

-- whatever follows, the same is asked
pub enough_decides : (n : List ℕ) (s : State) → 8196 ≤ length n → (s.more || (leb 4 s.taken && settles n)) ≡ true → Decided n s
enough_decides n s len e text (so_far w m t sh f) rest =
    let q = both _ _ (rw m at e) in
    let four : 4 ≤ s.taken = leb-true 4 s.taken q.0 in
    by_words (text ++ rest) (f rest) ∙ four_given n s.taken (words_from w rest) four t
    ∙ settled_whatever n _ _ q.1
    ∙ sym (by_words text (ap words (sym (append-nil text)) ∙ f []) ∙ four_given n s.taken (words_from w []) four t)
enough_decides n s len e text (stopped word m t wh f) rest =
    by_words (text ++ rest) (f rest).1 ∙ stop_words n s.taken word (f rest).0 len t wh
    ∙ sym (by_words text (ap words (sym (append-nil text)) ∙ (f []).1) ∙ stop_words n s.taken word (f []).0 len t wh)

-- a separator parts the words before it from those after it
pub parted : (w : Open) (text rest : List ℕ) → words_from w (text ++ (32 ∷ rest)) ≡ words_from w text ++ words_from between rest
parted w [] rest = refl
parted w (c ∷ text) rest = by_byte (separator c) (parted between text rest) (parted (grown w c) text rest)
  where
    by_byte : (b : Bool) → words_from between (text ++ (32 ∷ rest)) ≡ words_from between text ++ words_from between rest →
        words_from (grown w c) (text ++ (32 ∷ rest)) ≡ words_from (grown w c) text ++ words_from between rest →
        cond b (closed w ++ words_from between (text ++ (32 ∷ rest))) (words_from (grown w c) (text ++ (32 ∷ rest)))
        ≡ cond b (closed w ++ words_from between text) (words_from (grown w c) text) ++ words_from between rest
    by_byte true e f =
        ap (λ (l : List (Option ℕ)). closed w ++ l) e ∙ sym (append_assoc (closed w) (words_from between text) (words_from between rest))
    by_byte false e f = f

-- one word more stands in the text with a 0 after the separator
zero_more : (text : List ℕ) → length (words (text ++ (32 ∷ []) ++ (48 ∷ []))) ≡ suc (length (words text))
unfolding words
zero_more text =
    ap (λ (l : List ℕ). length (words_from between l)) (append_assoc text (32 ∷ []) (48 ∷ []))
    ∙ ap length (parted between text (48 ∷ [])) ∙ omega (arith, length-append (words_from between text) (some 0 ∷ []))

-- a 0 is a word, or lengthens the one that stands open
one_word : (w : Open) → length (words_from w (48 ∷ [])) ≡ 1
one_word between = refl
one_word (digits x) = refl
one_word other = refl

nothing_closed : (w : Open) → length (closed w) ≡ 0 → closed w ≡ []
nothing_closed between e = refl
nothing_closed (digits x) e = absurd (omega arith)
nothing_closed other e = absurd (omega arith)

-- where a separator ended the text and every word was taken, its words are the numbers taken
pub all_taken : (text n : List ℕ) (s : State) → Fed (text ++ (32 ∷ [])) n s → s.more ≡ false →
    (s.taken ≤ length n) × (words text ≡ as_words (taken_of n s) ++ [])
all_taken text n s (stopped word m t wh f) e = never (cc)
all_taken text n s (so_far w m t sh f) e =
    let l = as_words (taken_of n s) in
    let here : words text ≡ l ++ closed w = sym (ends_as_separator text) ∙ ap words (sym (append-nil (text ++ (32 ∷ [])))) ∙ f [] in
    let a : length (words text) ≡ length l + length (closed w) = ap length here ∙ length-append l (closed w) in
    let b : suc (length (words text)) ≡ length l + length (words_from w (48 ∷ [])) =
    sym (zero_more text) ∙ ap length (f (48 ∷ [])) ∙ length-append l (words_from w (48 ∷ [])) in
    (t, here ∙ ap (λ (c : List (Option ℕ)). l ++ c) (nothing_closed w (omega (arith, one_word w))))

-- where it was ended and a word was not taken
pub not_taken : (text n : List ℕ) (s : State) → 8196 ≤ length n → Fed (text ++ (32 ∷ [])) n s → s.more ≡ true →
    request text ≡ stop_requested n s.taken
not_taken text n s len (so_far w m t sh f) e = never (cc)
not_taken text n s len (stopped word m t wh f) e =
    by_words text (sym (ends_as_separator text) ∙ ap words (sym (append-nil (text ++ (32 ∷ [])))) ∙ (f []).1) ∙ stop_words n s.taken word
    (f []).0 len t wh
