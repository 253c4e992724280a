-- The settings of a line, one by one. Assumes nothing.
use mathlib.Core.Path.{◌≡◌, sym, ap, ◌∙◌}
use mathlib.Core.List.{List, [], ◌∷◌, ◌++◌, append_assoc, append-nil}
use Prim.Native.Nat.{ℕ, ◌+◌, ◌<◌}
use native.Mathlib.Numerals.{add-one}
use lib.ListN.{length, get_or, take}
use lib.Seq.{take-suc}
use Rattle.printing.specs.Lines.{decimal, spaced, numbered}

numbered_snoc : (l : List ℕ) (x : ℕ) → numbered l ++ spaced (decimal x) ≡ numbered (l ++ (x ∷ []))
numbered_snoc [] x = sym (append-nil (spaced (decimal x)))
numbered_snoc (s ∷ l) x =
    append_assoc (spaced (decimal s)) (numbered l) (spaced (decimal x))
    ∙ ap (λ (t : List ℕ). spaced (decimal s) ++ t) (numbered_snoc l x)

-- one setting more
pub numbered_more : (s : List ℕ) (i : ℕ) → i < length s → numbered (take i s) ++ spaced (decimal (get_or s i 0)) ≡ numbered (take (i + 1) s)
numbered_more s i h =
    numbered_snoc (take i s) (get_or s i 0)
    ∙ ap numbered (sym (take-suc s i 0 h) ∙ ap (λ (n : ℕ). take n s) (sym (add-one i)))
