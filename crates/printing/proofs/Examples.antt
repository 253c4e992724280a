-- Lines and numbers worked out, byte by byte. Assumes nothing.
use Rattle.std.specs.Prelude.{Ok, Err}
use mathlib.Core.Path.{◌≡◌, refl}
use mathlib.Core.List.{[], ◌∷◌}
use Rattle.tables.specs.declared.refusal.Refusal.TheVariants.{Cell, NoneWithin}
use Rattle.walk.specs.declared.Totals.{Totals}
use Rattle.printing.specs.Lines.{decimal, line, ave_line, minmax_line}

-- "0"
pub decimal_zero : decimal 0 ≡
    48 ∷ []
unfolding decimal
decimal_zero = refl

-- the largest 64-bit number, "18446744073709551615"
pub decimal_largest : decimal 18446744073709551615 ≡
    49 ∷ 56 ∷ 52 ∷ 52 ∷ 54 ∷ 55 ∷ 52 ∷ 52 ∷ 48 ∷ 55 ∷ 51 ∷ 55 ∷ 48 ∷ 57 ∷ 53 ∷ 53 ∷ 49 ∷ 54 ∷ 49 ∷ 53 ∷ []
unfolding decimal
decimal_largest = refl

-- rate 13, distortion 8, peak 6
abbrev pub totals_example : Totals
totals_example = record { rate = record { 0 = 13 }; distortion = record { 0 = 8 }; peak = 6 }

-- "ave 3/5 rate 13 dist 8 peak 6 floor 6 plan 0 1"
pub average_example : ave_line (Ok (record { n = 3; d = 5; floor = record { 0 = 6 }; totals = totals_example })) (0 ∷ 1 ∷ []) ≡
    97 ∷ 118 ∷ 101 ∷ 32 ∷ 51 ∷ 47 ∷ 53 ∷ 32 ∷ 114 ∷ 97 ∷ 116 ∷ 101 ∷ 32 ∷ 49 ∷ 51 ∷ 32 ∷ 100 ∷ 105 ∷ 115 ∷ 116 ∷
    32 ∷ 56 ∷ 32 ∷ 112 ∷ 101 ∷ 97 ∷ 107 ∷ 32 ∷ 54 ∷ 32 ∷ 102 ∷ 108 ∷ 111 ∷ 111 ∷ 114 ∷ 32 ∷ 54 ∷ 32 ∷ 112 ∷ 108 ∷
    97 ∷ 110 ∷ 32 ∷ 48 ∷ 32 ∷ 49 ∷ 10 ∷ []
unfolding line decimal
average_example = refl

-- "minmax 6 rate 13 dist 8 plan 0 1"
pub minmax_example : minmax_line (Ok (record { ceiling = 6; totals = totals_example })) (0 ∷ 1 ∷ []) ≡
    109 ∷ 105 ∷ 110 ∷ 109 ∷ 97 ∷ 120 ∷ 32 ∷ 54 ∷ 32 ∷ 114 ∷ 97 ∷ 116 ∷ 101 ∷ 32 ∷ 49 ∷ 51 ∷ 32 ∷ 100 ∷ 105 ∷
    115 ∷ 116 ∷ 32 ∷ 56 ∷ 32 ∷ 112 ∷ 108 ∷ 97 ∷ 110 ∷ 32 ∷ 48 ∷ 32 ∷ 49 ∷ 10 ∷ []
unfolding line decimal
minmax_example = refl

-- "ave refused 7 at 12"
pub cell_example : ave_line (Err (Cell 12)) [] ≡
    97 ∷ 118 ∷ 101 ∷ 32 ∷ 114 ∷ 101 ∷ 102 ∷ 117 ∷ 115 ∷ 101 ∷ 100 ∷ 32 ∷ 55 ∷ 32 ∷ 97 ∷ 116 ∷ 32 ∷ 49 ∷ 50 ∷ 10 ∷
    []
unfolding line decimal
cell_example = refl

-- "ave refused 9"
pub none_within_example : ave_line (Err NoneWithin) [] ≡
    97 ∷ 118 ∷ 101 ∷ 32 ∷ 114 ∷ 101 ∷ 102 ∷ 117 ∷ 115 ∷ 101 ∷ 100 ∷ 32 ∷ 57 ∷ 10 ∷ []
unfolding line decimal
none_within_example = refl
