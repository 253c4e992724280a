-- A number in decimal, as std writes it: its last digit and those before it, and how long its text is. Assumes nothing.
use Rattle.std.proofs.Common.{◌≡◌, sym, ap, ◌∙◌, Bool, true, false, cond, ltb, [], ◌∷◌, ◌++◌, List, ℕ, zero, suc, ◌+◌, ◌/◌, ◌%◌, ◌^◌, ◌≤◌, ◌<◌, length, length-append, arith, rules}
use Rattle.std.specs.Fmt as std
use Rattle.std.proofs.lemmas.Fmt.{AppendsLastDigit, decimal_from_appends, decimal_digit, decimal_step, length-decimal-le}
use Rattle.printing.specs.Lines.{decimal, decimal_in}

appends : AppendsLastDigit decimal_in
appends = search rules

-- the text that std's `{x}` is
as_std : (x : ℕ) → x < 2 ^ 64 → decimal x ≡ std.decimal x
unfolding decimal
as_std x h = decimal_from_appends decimal_in appends 20 x h (length-decimal-le 20 x (omega arith) (omega arith) h)

-- one digit
pub decimal_one : (x : ℕ) → x < 10 → decimal x ≡ (48 + x) ∷ []
decimal_one x h = as_std x (omega arith) ∙ decimal_digit x h

-- .. or several: the last behind the others
pub decimal_more : (x : ℕ) → 10 ≤ x → x < 2 ^ 64 → decimal x ≡ decimal (x / 10) ++ ((48 + x % 10) ∷ [])
decimal_more x h f =
    as_std x f ∙ decimal_step x h f ∙ ap (λ (l : List ℕ). l ++ ((48 + x % 10) ∷ [])) (sym (as_std (x / 10) (omega arith)))

-- no more digits than there is room for
length_in : (m x : ℕ) → length (decimal_in m x) ≤ m
length_in zero x = omega arith
length_in (suc m) x = of (ltb x 10) (length_in m (x / 10))
  where
    of : (t : Bool) → length (decimal_in m (x / 10)) ≤ m
        → length (cond t ((48 + x) ∷ []) (decimal_in m (x / 10) ++ ((48 + x % 10) ∷ []))) ≤ suc m
    of true h = omega arith
    of false h = omega (arith, length-append (decimal_in m (x / 10)) ((48 + x % 10) ∷ []))

pub length_decimal : (x : ℕ) → length (decimal x) ≤ 20
unfolding decimal
length_decimal x = length_in 20 x

-- a byte has three at most
pub length_byte : (x : ℕ) → x < 256 → length (decimal x) ≤ 3
length_byte x h = rw (as_std x (omega arith)) (length-decimal-le 3 x (omega arith) (omega arith) (omega arith))
