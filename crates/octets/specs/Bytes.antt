-- Numbers and entries in bytes. Assumes nothing.
use Rattle.std.specs.Prelude.{List, [], ◌∷◌, ℕ, zero, suc, ◌+◌, ◌*◌, ◌/◌, ◌%◌, ◌^◌, take, drop, cond, eqb}

-- "numbers low byte first": the k bytes of x
unfoldable pub le : ℕ → ℕ → List ℕ
le zero x = []
le (suc k) x = x % 256 ∷ le k (x / 256)

-- the number that some bytes hold
abbrev pub value : List ℕ → ℕ
value [] = 0
value (b ∷ l) = b + 256 * value l

-- the k bytes from `at` on
abbrev pub part : ℕ → ℕ → List ℕ → List ℕ
part at k file = take k (drop at file)

unfoldable pub number_at : ℕ → ℕ → List ℕ → ℕ
number_at at k file = value (part at k file)

-- "two to a byte, the even entry in the low four bits": half 0 of a byte is its low four bits, half 1 its high four
unfoldable pub half : ℕ → ℕ → ℕ
half b m = b / 16 ^ m % 16

-- half m of byte b becomes v
unfoldable pub with_half : ℕ → ℕ → ℕ → ℕ
with_half b m v = cond (eqb m 0) (b / 16 * 16 + v) (v * 16 + b % 16)
