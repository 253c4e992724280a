-- `walk::weighed` meets its contract: a product of 8 and 32 bits fits.
use native.Mathlib.Nat.{mul-le-mul_right}
use native.Mathlib.Omega.{arith}
use Rattle.walk.proofs.weighed.Goals as goal

pub overflow_mul-result : goal.overflow_mul-result
overflow_mul-result c = omega (arith, mul-le-mul_right {m = c.args.weight} {n = 255} c.args.cell.0 (omega arith))
