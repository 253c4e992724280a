-- What a pass is made of, under any law: from the last scan down a step for each scan, as the step's contract says, and then scan 0.
-- No promise of a call cites it. Assumes nothing.
use Rattle.std.specs.Prelude.{◌≡◌, Bool, List, [], ℕ, suc, ◌+◌, ◌-◌, ◌*◌, ◌<◌, ltb, get_or}
use Rattle.tables.specs.Tables.{Table, weight_at}
use Rattle.least.specs.declared.Rule.{Rule}
use Rattle.least.specs.Row.{no_way, candidate, BestOf}
use Rattle.trellis.specs.Square.{closed_cell, counted_cell}
use Rattle.trellis.specs.Choices.{ChoiceStored}
use Rattle.trellis.specs.Stepped.{Stepped}

-- "Each later scan's rates form a square of Q rows of Q": the square of scan i, from 1 on, with what is made of each cell
abbrev pub SquareOf : (Q i : ℕ) → (ℕ → ℕ) → List (List ℕ) → Type 0
SquareOf Q i made square = (p : ℕ) → p < Q → (q : ℕ) → q < Q → get_or (get_or square p []) q 0 ≡ made (Q + (i - 1) * (Q * Q) + p * Q + q)

-- "Scan 0, setting q: cell q."
abbrev pub FirstRow : (Q : ℕ) → (ℕ → ℕ) → List ℕ → Type 0
FirstRow Q made row = (q : ℕ) → q < Q → get_or row q 0 ≡ made (0 + q)

-- what a pass makes of each cell of a scan: its rate, closed, and the distortion that counts
abbrev pub rate_made : Table → Rule → ℕ → ℕ
rate_made t rule = closed_cell rule.ceiling t.rates t.distortions

abbrev pub distortion_made : Table → Rule → (i : ℕ) → ℕ → ℕ
distortion_made t rule i = counted_cell (weight_at t i) rule.ceiling t.rates t.distortions

-- the scans after i are stepped, each from its squares
pub data SteppedTo (t : Table) (rule : Rule) (before : List ℕ) : ℕ → List ℕ → List ℕ → Type 0 where
  unstepped : {i : ℕ} {keys : List ℕ} → i ≡ t.N - 1 → ((p : ℕ) → p < t.Q → get_or keys p 0 ≡ 0) → SteppedTo t rule before i keys before
  stepped : {i j : ℕ} {keys keys' scratch scratch' : List ℕ} {rs ds : List (List ℕ)} → suc j ≡ i → i < t.N → SquareOf t.Q i (rate_made t rule) rs →
      SquareOf t.Q i (distortion_made t rule i) ds → Stepped rule t.law t.Q i rs ds keys keys' scratch scratch' →
      SteppedTo t rule before i keys scratch → SteppedTo t rule before j keys' scratch'

-- the whole pass: every later scan stepped, the best setting of scan 0 stored, and whether there was one told
pub record Made (t : Table) (rule : Rule) (before after : List ℕ) (found : Bool) : Type 0 where
  pub keys : List ℕ
  pub scratch : List ℕ
  pub steps : SteppedTo t rule before 0 keys scratch
  pub rates : List ℕ
  pub distortions : List ℕ
  pub rates_of : FirstRow t.Q (rate_made t rule) rates
  pub distortions_of : FirstRow t.Q (distortion_made t rule 0) distortions
  pub least : ℕ
  pub first : ℕ
  pub best : BestOf (candidate rule rates distortions keys) 0 t.Q least first
  pub stored : ChoiceStored t.Q 0 0 first scratch after
  pub told : found ≡ ltb least no_way
