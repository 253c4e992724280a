-- Document 01, "Bench tables": the lines that bench writes. Assumes nothing.
use Rattle.std.specs.Prelude.{cond, Ok, Err, List, [], ◌∷◌, ◌++◌, ℕ, zero, suc, ◌+◌, ◌/◌, ◌%◌, eqb, ltb}
use Rattle.tables.specs.Refusals.{number_of, carried_by}
use Rattle.walk.specs.declared.Totals.{Totals}
use Rattle.promise.specs.declared.AveragePlan.{AveragePlan}
use Rattle.promise.specs.declared.MinmaxPlan.{MinmaxPlan}
use Rattle.promise.specs.Answers.{MinmaxAnswer, AverageAnswer}
use Rattle.printing.specs.declared.line.Said.{Said}
use Rattle.printing.specs.declared.line.Said.TheVariants.{Average, Minmax, Refused}

-- a number in decimal, with no zero in front; k digits are room enough
abbrev pub decimal_in : ℕ → ℕ → List ℕ
decimal_in zero x = []
decimal_in (suc k) x = cond (ltb x 10) ((48 + x) ∷ []) (decimal_in k (x / 10) ++ ((48 + x % 10) ∷ []))

-- 20 digits hold every 64-bit number
unfoldable pub decimal : ℕ → List ℕ
decimal x = decimal_in 20 x

-- the words of a line, by their letters
abbrev pub ave : List ℕ
ave = 97 ∷ 118 ∷ 101 ∷ []

abbrev pub minmax : List ℕ
minmax = 109 ∷ 105 ∷ 110 ∷ 109 ∷ 97 ∷ 120 ∷ []

abbrev pub rate : List ℕ
rate = 114 ∷ 97 ∷ 116 ∷ 101 ∷ []

abbrev pub dist : List ℕ
dist = 100 ∷ 105 ∷ 115 ∷ 116 ∷ []

abbrev pub peak : List ℕ
peak = 112 ∷ 101 ∷ 97 ∷ 107 ∷ []

abbrev pub floor : List ℕ
floor = 102 ∷ 108 ∷ 111 ∷ 111 ∷ 114 ∷ []

abbrev pub plan : List ℕ
plan = 112 ∷ 108 ∷ 97 ∷ 110 ∷ []

abbrev pub refused : List ℕ
refused = 114 ∷ 101 ∷ 102 ∷ 117 ∷ 115 ∷ 101 ∷ 100 ∷ []

abbrev pub at : List ℕ
at = 97 ∷ 116 ∷ []

-- "bad input" and "too large", each "alone as the only line"
abbrev pub bad_input : List ℕ
bad_input = 98 ∷ 97 ∷ 100 ∷ 32 ∷ 105 ∷ 110 ∷ 112 ∷ 117 ∷ 116 ∷ 10 ∷ []

abbrev pub too_large : List ℕ
too_large = 116 ∷ 111 ∷ 111 ∷ 32 ∷ 108 ∷ 97 ∷ 114 ∷ 103 ∷ 101 ∷ 10 ∷ []

-- each word and each number after the first stands after a space
abbrev pub spaced : List ℕ → List ℕ
spaced w = 32 ∷ w

abbrev pub named : List ℕ → ℕ → List ℕ
named w x = spaced w ++ spaced (decimal x)

-- "plan 0 1"
abbrev pub numbered : List ℕ → List ℕ
numbered [] = []
numbered (s ∷ l) = spaced (decimal s) ++ numbered l

abbrev pub planned : List ℕ → List ℕ
planned settings = spaced plan ++ numbered settings

abbrev pub line_end : List ℕ
line_end = 10 ∷ []

-- "A refusal prints "refused" and its number after the line's first word, and for 7 " at " and the cell."
abbrev pub refusal_text : ℕ → ℕ → List ℕ
refusal_text number carried = named refused number ++ cond (eqb number 7) (named at carried) []

-- " n/d"
abbrev pub ratio : ℕ → ℕ → List ℕ
ratio n d = spaced (decimal n) ++ (47 ∷ decimal d)

-- the rate and the distortion of a plan
abbrev pub sums : Totals → List ℕ
sums t = named rate t.rate.0 ++ named dist t.distortion.0

-- "First line: n/d, rate, distortion, peak, floor, settings."
abbrev pub ave_text : AveragePlan → List ℕ → List ℕ
ave_text p settings = ratio p.n p.d ++ sums p.totals ++ named peak p.totals.peak ++ named floor p.floor.0 ++ planned settings

-- "Second: X, rate, distortion, settings."
abbrev pub minmax_text : MinmaxPlan → List ℕ → List ℕ
minmax_text p settings = spaced (decimal p.ceiling) ++ sums p.totals ++ planned settings

-- what a line says after its first word
abbrev pub said_text : Said → List ℕ → List ℕ
said_text (Average p) settings = ave_text p settings
said_text (Minmax p) settings = minmax_text p settings
said_text (Refused r) settings = refusal_text (number_of r) (carried_by r)

-- a line: its first word, what it says, and its end
unfoldable pub line : List ℕ → Said → List ℕ → List ℕ
line first said settings = first ++ said_text said settings ++ line_end

-- what is said of an answer, and its line: the first of the average call, the second of the minmax call
abbrev pub average_said : AverageAnswer → Said
average_said (Ok p) = Average p
average_said (Err r) = Refused r

abbrev pub minmax_said : MinmaxAnswer → Said
minmax_said (Ok p) = Minmax p
minmax_said (Err r) = Refused r

abbrev pub ave_line : AverageAnswer → List ℕ → List ℕ
ave_line answer settings = line ave (average_said answer) settings

abbrev pub minmax_line : MinmaxAnswer → List ℕ → List ℕ
minmax_line answer settings = line minmax (minmax_said answer) settings
