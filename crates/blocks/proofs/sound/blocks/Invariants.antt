-- `blocks::sound::blocks` meets its contract: block after block.
use mathlib.Core.Path.{◌≡◌}
use mathlib.Core.Bool.{false}
use Prim.Native.Nat.{ℕ, ◌<◌}
use Rattle.blocks.specs.Blocks.{block_broken}
use Rattle.blocks.proofs.sound.blocks.Given as goal

abbrev pub invariant-loop-k : goal.invariant-loop-k
invariant-loop-k l = (i : ℕ) → i < l.k → block_broken l.version l.file i ≡ false
