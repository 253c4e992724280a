-- The check of a block. Assumes nothing.
use Rattle.std.specs.Prelude.{cond, List, [], ◌∷◌, ℕ, ◌+◌, ◌*◌, ◌-◌, eqb, sum}
use Rattle.blocks.specs.Sizes.{body_size}
use Rattle.blocks.specs.Letters.{qpl2}

-- "the sum of (508 - k) times byte k": n times the first byte, and each next once less
abbrev pub tilt : ℕ → List ℕ → ℕ
tilt n [] = 0
tilt n (b ∷ l) = n * b + tilt (n - 1) l

-- The check of a block, from its bytes before it, in a file of this version. "the check is 1 plus the sum of (508 - k) times byte k, for k
-- from 0 to 507"; "QPL1 files are still read under the old sum", "bytes 508 to 511 the sum of bytes 0 to 507"; "unknown letters take the old
-- sum."
unfoldable pub check_of : (version : ℕ) → List ℕ → ℕ
check_of version body = cond (eqb version qpl2) (1 + tilt body_size body) (sum body)
