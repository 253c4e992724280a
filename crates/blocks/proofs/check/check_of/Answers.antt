-- `blocks::check::check_of` meets its contract: the tilt counts as many bytes as a block has.
use mathlib.Core.Path.{◌≡◌, ap, ◌∙◌}
use Prim.Native.Nat.{◌+◌, ◌-◌}
use native.Mathlib.Omega.{arith}
use Rattle.octets.specs.Bytes.{part}
use Rattle.octets.proofs.PartLaws.{part_length}
use Rattle.blocks.proofs.SumLaws.{check_tilt}
use Rattle.blocks.proofs.check.check_of.Goals as goal

pub returns-then-version-eq-QPL2 : goal.returns-then-version-eq-QPL2
returns-then-version-eq-QPL2 c =
    let a = c.args in
    let size : a.at + 508 - a.at ≡ 508 = omega arith in
    let tilted = (rw (size, part_length a.at 508 a.file.now (omega arith)) at c.tilt_of.ensures.0) in
    ap (λ t. 1 + t) tilted ∙ check_tilt a.version (part a.at 508 a.file.now) c.if-version-eq-QPL2.true
