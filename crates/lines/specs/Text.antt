-- Document 02, [1]: the lines of a text, the fields of a line and what a field says, "with line ends and quoting as in RFC 4180".
-- Assumes nothing.
use Rattle.std.specs.Prelude.{Bool, true, cond, ◌&&◌, List, [], ◌∷◌, ℕ, zero, suc, ◌+◌, ◌*◌, ◌-◌, eqb, leb, length, get_or, take, drop}
use Rattle.std.proofs.Math.Option.{Option, none, some}
use Rattle.reading.specs.Text.{digit}

-- a line end stands at the front of these bytes: CR, and LF after it
abbrev pub line_end : List ℕ → Bool
line_end t = eqb (get_or t 0 0) 13 && eqb (get_or t 1 0) 10

-- the line at the front of these bytes: those up to the first line end, or all. A line end within quotes ends it too: what it cuts off is
-- malformed.
abbrev pub line : List ℕ → List ℕ
line [] = []
line (c ∷ t) = cond (line_end (c ∷ t)) [] (c ∷ line t)

-- the bytes after its line end; none where it has none
abbrev pub after : List ℕ → List ℕ
after [] = []
after (c ∷ t) = cond (line_end (c ∷ t)) (drop 1 t) (after t)

-- "one comma-separated line per measurement": the lines of a text, of which the last may lack its line end. An empty text has no line. (At
-- most k of them; a text has no more lines than bytes.)
abbrev pub lines_of : ℕ → List ℕ → List (List ℕ)
lines_of zero t = []
lines_of (suc k) [] = []
lines_of (suc k) (c ∷ t) = line (c ∷ t) ∷ lines_of k (after (c ∷ t))

unfoldable pub lines : List ℕ → List (List ℕ)
lines t = lines_of (length t) t

-- c at the front of the first field
abbrev pub joined : ℕ → List (List ℕ) → List (List ℕ)
joined c [] = []
joined c (f ∷ fs) = (c ∷ f) ∷ fs

-- the fields of a line, parted by commas. A comma within quotes parts it too: a field that holds one is not of digits alone, so its line is
-- malformed either way.
abbrev pub fields : List ℕ → List (List ℕ)
fields [] = [] ∷ []
fields (c ∷ l) = cond (eqb c 44) ([] ∷ fields l) (joined c (fields l))

-- a field may stand between quotes, and its content is then what they hold
abbrev pub quoted : List ℕ → Bool
quoted f = leb 2 (length f) && (eqb (get_or f 0 0) 34 && eqb (get_or f (length f - 1) 0) 34)

unfoldable pub content : List ℕ → List ℕ
content f = cond (quoted f) (take (length f - 2) (drop 1 f)) f

-- decimal digits, and the number that they write
abbrev pub all_digits : List ℕ → Bool
all_digits [] = true
all_digits (c ∷ l) = digit c && all_digits l

abbrev pub value_from : ℕ → List ℕ → ℕ
value_from v [] = v
value_from v (c ∷ l) = value_from (10 * v + (c - 48)) l

-- "Other fields are one to seven decimal digits"
unfoldable pub number : List ℕ → Option ℕ
number c = cond (leb 1 (length c) && (leb (length c) 7 && all_digits c)) (some (value_from 0 c)) none
