-- `blocks::check::tilt_of` meets its contract: byte after byte, and the sum so far with each.
use mathlib.Core.Path.{◌≡◌}
use Prim.Native.Nat.{◌≤◌, ◌*◌}
use lib.ListN.{take}
use Rattle.std.specs.List.{sum}
use Rattle.blocks.specs.BlockCheck.{tilt}
use Rattle.blocks.proofs.check.tilt_of.Given as goal

-- the two sums of i bytes; and bounds, so that neither leaves 64 bits: 130,560 is 255 for each of 512 bytes
abbrev pub invariant-loop-b : goal.invariant-loop-b
invariant-loop-b l = (l.total ≡ tilt l.b-index (take l.b-index l.body)) × (l.so_far ≡ sum (take l.b-index l.body)) × (l.so_far ≤ 255 * l.b-index) × (l.total ≤ 130560 * l.b-index)
