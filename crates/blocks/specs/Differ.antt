-- Bytes compared with those that should stand there: letters, and runs of zeros. Assumes nothing.
use Rattle.std.specs.Prelude.{Bool, false, not, ◌||◌, List, [], ◌∷◌, ℕ, eqb, get_or, drop}

-- some byte is not the one that should stand there
abbrev pub differ : List ℕ → List ℕ → Bool
differ [] t = false
differ (a ∷ s) t = not (eqb a (get_or t 0 0)) || differ s (drop 1 t)
