-- What the parts of a line's reading leave each other. Assumes nothing.
use Rattle.std.specs.Prelude.{◌≡◌, ◌≢◌, Option as Given, Some, None, List, [], ◌∷◌, ℕ, suc, ◌+◌, ◌≤◌, ◌<◌, length, get_or, drop}
use Rattle.std.proofs.Math.Option.{Option, none, some}
use Rattle.std.proofs.Math.Seq.{slice}
use Rattle.lines.specs.declared.ends.Ends.{Ends}
use Rattle.lines.specs.Text.{line, after, fields}

-- what the code gives, as the definitions have it: `Option` of the code is std's, that of the definitions the mathematical library's
abbrev pub said : {A : Type 0} → Given A → Option A
said (Some x) = some x
said None = none

-- the line that starts at `from` ends at `to`
pub record LineEnds (text : List ℕ) (from to : ℕ) : Type 0 where
  pub order : from ≤ to
  pub inside : to ≤ length text
  pub is_line : line (drop from text) ≡ slice from to text
  pub is_after : after (drop from text) ≡ drop (to + 2) text

-- the first comma from one place up to another, or that other place
pub record CommaAt (text : List ℕ) (from end at : ℕ) : Type 0 where
  pub order : from ≤ at
  pub inside : at ≤ end
  pub before : (i : ℕ) → from ≤ i → i < at → get_or text i 0 ≢ 44
  pub there : at < end → get_or text at 0 ≡ 44

-- what a search for that comma gives: where it stands, or that none stands there
abbrev pub CommaFound : List ℕ → (from end : ℕ) → Given ℕ → Type 0
CommaFound text from end (Some at) = CommaAt text from end at × (at < end)
CommaFound text from end None = CommaAt text from end end

-- the five fields of a line, by where each ends
pub record FiveEnds (text : List ℕ) (from end : ℕ) (e : Ends) : Type 0 where
  pub order : (from ≤ e.first) × ((e.first < e.second) × ((e.second < e.third) × ((e.third < e.fourth) × (e.fourth < end))))
  pub fields_are : fields (slice from end text) ≡ slice from e.first text ∷ slice (suc e.first) e.second text
      ∷ slice (suc e.second) e.third text ∷ slice (suc e.third) e.fourth text ∷ slice (suc e.fourth) end text ∷ []

-- .. or there are not five
abbrev pub EndsOf : List ℕ → (from end : ℕ) → Given Ends → Type 0
EndsOf text from end (Some e) = FiveEnds text from end e
EndsOf text from end None = length (fields (slice from end text)) ≢ 5
