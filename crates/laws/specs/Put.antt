-- A text that was put into a lent buffer: what the functions that write texts leave each other. Assumes nothing.
use Rattle.std.specs.Prelude.{◌≡◌, List, ℕ, ◌+◌, length}
use Rattle.std.proofs.lemmas.List.Edits.{sets}

-- the text was put at `at` into what stood in the buffer before, and `r` is the place after it
pub record Put (before : List ℕ) (at : ℕ) (text after : List ℕ) (r : ℕ) : Type 0 where
  pub so : after ≡ sets before at text
  pub end : r ≡ at + length text
