-- The letters of block 0, and the version that they say. Assumes nothing.
use Rattle.std.specs.Prelude.{cond, List, [], ◌∷◌, ℕ, ◌≤◌, eqb}
use Rattle.octets.specs.Bytes.{part}
use Rattle.blocks.specs.Differ.{differ}

-- The versions: "From now on the letters are QPL2"; "QPL1 files are still read"; and "unknown letters".
abbrev pub qpl1 : ℕ
qpl1 = 1

abbrev pub qpl2 : ℕ
qpl2 = 2

abbrev pub no_version : ℕ
no_version = 0

-- a version that has letters
abbrev pub Known : ℕ → Type 0
Known version = (qpl1 ≤ version) × (version ≤ qpl2)

-- the four letters of a version, QPL1 or QPL2
abbrev pub letters : ℕ → List ℕ
letters version = 81 ∷ 80 ∷ 76 ∷ cond (eqb version qpl2) 50 49 ∷ []

-- the version that bytes "4 to 7" of block 0 say
unfoldable pub version_of : List ℕ → ℕ
version_of file = cond (differ (letters qpl2) (part 4 4 file)) (cond (differ (letters qpl1) (part 4 4 file)) no_version qpl1) qpl2
