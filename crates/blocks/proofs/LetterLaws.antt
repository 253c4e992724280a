-- The version that letters say. Assumes nothing.
use mathlib.Core.Path.{◌≡◌, refl, ap}
use mathlib.Core.Bool.{Bool, true, false, cond}
use mathlib.Core.List.{List}
use Prim.Native.Nat.{ℕ, zero, suc, ◌≤◌}
use native.Mathlib.Omega.{arith}
use lib.Dec.{eqb}
use lib.ListN.{length}
use Rattle.laws.proofs.Tests.{never}
use Rattle.octets.specs.Bytes.{part}
use Rattle.octets.proofs.PartLaws.{part_length}
use Rattle.blocks.specs.Letters.{qpl1, qpl2, no_version, Known, letters, version_of}
use Rattle.blocks.specs.Differ.{differ}
use Rattle.blocks.proofs.DifferLaws.{no_difference}

-- some byte differs from the letters of a version
abbrev other : ℕ → List ℕ → Bool
other version file = differ (letters version) (part 4 4 file)

-- what the two comparisons say
abbrev said : Bool → Bool → ℕ
said a b = cond a (cond b no_version qpl1) qpl2

-- letters that are known are those of the version that they say
pub version_letters : (file : List ℕ) → 8 ≤ length file → eqb (version_of file) no_version ≡ false → letters (version_of file) ≡ part 4 4 file
unfolding version_of
version_letters file h known =
    of (other qpl2 file) (other qpl1 file) (same qpl2) (same qpl1) known
  where
    same : (version : ℕ) → other version file ≡ false → letters version ≡ part 4 4 file
    same version d = no_difference (letters version) (part 4 4 file) (part_length 4 4 file h) d

    of : (a b : Bool) → (a ≡ false → letters qpl2 ≡ part 4 4 file) → (b ≡ false → letters qpl1 ≡ part 4 4 file) → eqb (said a b) no_version ≡ false
        → letters (said a b) ≡ part 4 4 file
    of false b p q k = p refl
    of true false p q k = q refl
    of true true p q k = never cc

-- they are of one of the two versions
pub version_known : (file : List ℕ) → eqb (version_of file) no_version ≡ false → Known (version_of file)
unfolding version_of
version_known file known = of (other qpl2 file) (other qpl1 file) known
  where
    of : (a b : Bool) → eqb (said a b) no_version ≡ false → Known (said a b)
    of false b k = (omega arith, omega arith)
    of true false k = (omega arith, omega arith)
    of true true k = never cc

-- the letters of a version say it
pub letters_version : (version : ℕ) → Known version → (file : List ℕ) → part 4 4 file ≡ letters version → version_of file ≡ version
unfolding version_of
letters_version zero k file e = absurd (omega arith)
letters_version (suc zero) k file e = rw e refl
letters_version (suc (suc zero)) k file e = rw e refl
letters_version (suc (suc (suc v))) k file e = absurd (omega arith)

-- the same letters say the same
pub same_version : (file file' : List ℕ) → part 4 4 file' ≡ part 4 4 file → version_of file' ≡ version_of file
unfolding version_of
same_version file file' e = ap (λ (l : List ℕ). said (differ (letters qpl2) l) (differ (letters qpl1) l)) e

-- the two versions have letters
pub qpl1_known : Known qpl1
qpl1_known = (omega arith, omega arith)

pub qpl2_known : Known qpl2
qpl2_known = (omega arith, omega arith)
