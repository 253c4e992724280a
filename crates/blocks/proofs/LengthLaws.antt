-- How many blocks a file has, and how long it is. Assumes nothing.
use mathlib.Core.Path.{◌≡◌, refl}
use mathlib.Core.Bool.{Bool, true, false, not, cond}
use Prim.Native.Nat.{ℕ, suc, ◌*◌, ◌≤◌}
use native.Mathlib.Omega.{arith}
use lib.Dec.{eqb, ltb}
use borrow.Author.Tests.{eqb-true, ltb-false, not-false}
use Rattle.blocks.specs.File.{data_blocks, file_length, other_length}
use Rattle.blocks.specs.Blocks.{length_out}

-- one or two data blocks
pub few_blocks : (N : ℕ) → data_blocks N ≤ 2
few_blocks N = of (ltb 1008 N)
  where
    of : (t : Bool) → cond t 2 1 ≤ 2
    of true = omega arith
    of false = omega arith

-- N settings are within the data blocks
pub within : (N : ℕ) → N ≤ 1024 → N ≤ 1008 * data_blocks N
within N h = of (ltb 1008 N) (ltb-false 1008 N)
  where
    of : (t : Bool) → (t ≡ false → N ≤ 1008) → N ≤ 1008 * cond t 2 1
    of true f = omega arith
    of false f = omega (arith, f refl)

-- the length of a file of N settings is 1,024 or 1,536
pub length_in : (N : ℕ) → length_out (file_length N) ≡ false
length_in N = of (ltb 1008 N)
  where
    of : (t : Bool) → length_out (512 * suc (cond t 2 1)) ≡ false
    of true = refl
    of false = refl

-- it goes with N
pub same_length : (N : ℕ) → other_length (file_length N) N ≡ false
same_length N = of (ltb 1008 N)
  where
    of : (t : Bool) → cond t (not (eqb (512 * suc (cond t 2 1)) 1536)) (not (eqb (512 * suc (cond t 2 1)) 1024)) ≡ false
    of true = refl
    of false = refl

-- and no other length does
pub right_length : (n N : ℕ) → other_length n N ≡ false → n ≡ file_length N
right_length n N e = of (ltb 1008 N) e
  where
    of : (t : Bool) → cond t (not (eqb n 1536)) (not (eqb n 1024)) ≡ false → n ≡ 512 * suc (cond t 2 1)
    of true e = eqb-true n 1536 (not-false _ e)
    of false e = eqb-true n 1024 (not-false _ e)
