-- An entry that is written: a setting, or filler. Assumes nothing.
use mathlib.Core.Path.{◌≡◌, refl, ap, ◌∙◌}
use mathlib.Core.List.{List}
use Prim.Native.Nat.{ℕ, ◌≤◌, ◌<◌}
use native.Mathlib.Omega.{arith}
use lib.ListN.{length, get_or, take}
use lib.Seq.{length-take-le, get_or-take}
use borrow.Author.Tests.{lt-ltb, le-ltb}
use Rattle.laws.proofs.Tests.{cases}
use Rattle.blocks.specs.File.{entry_of}

-- an entry that is a setting
pub entry_in : (N : ℕ) (settings : List ℕ) (j : ℕ) → j < N → get_or settings j 0 ≡ entry_of N settings j
entry_in N settings j h = rw (lt-ltb j N h) refl

-- and one that is none
pub entry_out : (N : ℕ) (settings : List ℕ) (j : ℕ) → N ≤ j → entry_of N settings j ≡ 0
entry_out N settings j h = rw (le-ltb j N h) refl

-- settings of four bits make entries of four bits
pub setting_small : (N : ℕ) (settings : List ℕ) → ((j : ℕ) → j < N → get_or settings j 0 < 16) → (j : ℕ) → entry_of N settings j < 16
setting_small N settings h j =
    cases j N (λ a. omega (arith, entry_in N settings j a, h j a)) (λ a. omega (arith, entry_out N settings j a))

-- the entries of the first N settings are those of N settings
pub entry_front : (N : ℕ) (settings : List ℕ) → N ≤ length settings → entry_of (length (take N settings)) (take N settings) ≡ entry_of N settings
entry_front N settings h = λ i j. each j i
  where
    each : (j : ℕ) → entry_of (length (take N settings)) (take N settings) j ≡ entry_of N settings j
    each j =
        let n : length (take N settings) ≡ N = length-take-le N settings h in
        ap (λ (k : ℕ). entry_of k (take N settings) j) n
        ∙ cases j N (λ a. rw (lt-ltb j N a) (get_or-take N settings j 0 a)) (λ a. rw (le-ltb j N a) refl)
