-- What the functions that put texts leave. Assumes nothing.
use Rattle.std.specs.Prelude.{◌≡◌, List, ℕ, length}
use Rattle.laws.specs.Put.{Put}
use Rattle.printing.specs.declared.put.Text.{Text}

-- the text was put behind what was there, into the same buffer, which is as long as it was
pub record Puts (before : Text) (text : List ℕ) (after : Text) : Type 0 where
  pub same_buffer : after.out.ghost_name ≡ before.out.ghost_name
  pub as_long : length after.out.now ≡ length before.out.now
  pub put : Put before.out.now before.at text after.out.now after.at
