-- Block 0 as it is written. Assumes nothing.
use mathlib.Core.Path.{◌≡◌, refl}
use mathlib.Core.Bool.{Bool, true, false, cond}
use mathlib.Core.List.{[], ◌∷◌}
use Prim.Native.Nat.{ℕ, ◌≤◌}
use native.Mathlib.Omega.{arith}
use lib.Dec.{eqb}
use lib.ListN.{length, take}
use Rattle.rules.specs.declared.Fields.{Fields}
use Rattle.octets.specs.Bytes.{le, value}
use Rattle.blocks.specs.Letters.{qpl2, letters}
use Rattle.std.specs.List.{sum}
use Rattle.blocks.specs.File.{InVersion, header}
use Rattle.blocks.proofs.SumLaws.{ByteSum, ◌joins◌, small_le, small_zeros}

-- QPL2 holds every plan
pub held_in_qpl2 : (f : Fields) → InVersion qpl2 f
held_in_qpl2 f e = absurd (omega (arith, e))

-- the header is 508 bytes
pub length_header : (version : ℕ) (f : Fields) → length (header version f) ≡ 508
unfolding header le
length_header version f = refl

-- the letters are bytes
small_letters : (version : ℕ) → ByteSum (letters version)
small_letters version = record { most = of (eqb version qpl2) }
  where
    of : (t : Bool) → sum (81 ∷ 80 ∷ 76 ∷ cond t 50 49 ∷ []) ≤ 1020
    of true = omega arith
    of false = omega arith

-- the header is made of bytes
pub small_header : (version : ℕ) (f : Fields) → ByteSum (header version f)
unfolding header
small_header version f =
    small_le 4 0 joins small_letters version joins small_le 2 f.scans joins small_le 1 f.settings joins small_le 1 f.law
    joins small_le 1 f.kind joins small_le 1 f.weighted joins small_zeros 2 joins small_le 8 f.budget joins small_le 4 f.n
    joins small_le 4 f.d joins small_le 4 f.rate.0 joins small_le 4 f.distortion.0 joins small_le 4 f.peak
    joins small_le 4 f.floor.0 joins small_zeros 460

-- the header starts with number 0
pub header_number : (version : ℕ) (f : Fields) → value (take 4 (header version f)) ≡ 0
unfolding header le
header_number version f = omega arith
