-- Document 01, "Bench tables": what a text asks of bench. Assumes nothing.
use Rattle.std.specs.Prelude.{cond, List, [], ◌∷◌, ℕ, zero, suc, ◌*◌, eqb, ltb, length, get_or, take, drop}
use Rattle.std.proofs.Math.Option.{Option, none, some}
use Rattle.tables.specs.declared.refusal.Refusal.{Refusal}
use Rattle.tables.specs.Tables.{cells}
use Rattle.checks.specs.Checks.{first_refusal}
use Rattle.tables.specs.Limits.{most_scans}
use Rattle.checks.specs.Planning.{range_checks}
use Rattle.tables.specs.Law.{law_out}
use Rattle.reading.specs.Text.{words}

pub data Request : Type 0 where
  bad_input : Request
  -- refused before a cell is read
  out_of_range : Refusal → Request
  too_large : Request
  -- "N Q law B, the rates, the distortions"
  to_plan : (N Q law B : ℕ) (rates distortions : List ℕ) → Request

-- the first k words as numbers; none where one of them is missing or is no number
abbrev pub add : ℕ → Option (List ℕ) → Option (List ℕ)
add x none = none
add x (some l) = some (x ∷ l)

abbrev pub first : ℕ → List (Option ℕ) → Option (List ℕ)
first zero ws = some []
first (suc k) [] = none
first (suc k) (none ∷ ws) = none
first (suc k) (some x ∷ ws) = add x (first k ws)

-- "over 4,096 cells", of one table
abbrev pub most_cells : ℕ
most_cells = 4096

-- "If N, Q or law is then out of range": the checks 1 to 3 of a planning call
abbrev pub range_refusal : (N Q law : ℕ) → Option Refusal
range_refusal N Q law = first_refusal (range_checks most_scans N Q (law_out law))

-- "the cells are read to the end of the input. A missing or extra number .. or any other text in what is read": all words after the first
-- four are numbers, and they are the cells of two tables
abbrev pub with_cells : (N Q law B : ℕ) → Option (List ℕ) → Request
with_cells N Q law B none = bad_input
with_cells N Q law B (some l) = to_plan N Q law B (take (cells N Q) l) (drop (cells N Q) l)

abbrev pub with_rest : (N Q law B : ℕ) → List (Option ℕ) → Request
with_rest N Q law B ws = cond (eqb (length ws) (2 * cells N Q)) (with_cells N Q law B (first (2 * cells N Q) ws)) bad_input

abbrev pub in_range : Option Refusal → Request → Request
in_range none a = a
in_range (some r) a = out_of_range r

-- "The first four numbers are read first. If N, Q or law is then out of range it prints the refusal on both lines and reads no further;
-- otherwise over 4,096 cells gives "too large"; otherwise the cells are read"
abbrev pub with_four : Option (List ℕ) → List (Option ℕ) → Request
with_four none ws = bad_input
with_four (some h) ws =
    let N = get_or h 0 0 in
    let Q = get_or h 1 0 in
    let law = get_or h 2 0 in
    in_range (range_refusal N Q law) (cond (ltb most_cells (cells N Q)) too_large (with_rest N Q law (get_or h 3 0) ws))

unfoldable pub request : List ℕ → Request
request text = with_four (first 4 (words text)) (drop 4 (words text))
