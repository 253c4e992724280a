-- `legal::legal` meets its contract: a capped distortion has 21 bits, so that its product fits.
use native.Mathlib.Nat.{mul-le-mul_right}
use native.Mathlib.Omega.{arith}
use Rattle.legal.proofs.CellTests.{passed, passes}
use Rattle.legal.proofs.legal.Goals as goal

pub overflow_mul-result : goal.overflow_mul-result
overflow_mul-result c = omega (arith, mul-le-mul_right {m = c.args.heavy} {n = 255} c.capped-tested.result (omega arith))

pub returns : goal.returns
returns c =
    let a = c.args in (
      passed a.heavy a.rate a.distortion c.capped-tested.result c.requires.0 c.capped-tested.ensures,
      λ l. passes a.heavy a.rate a.distortion c.capped-tested.result c.requires.0 c.capped-tested.ensures l.0 l.1,
    )
