-- Document 02, [1]: what a line says. Assumes nothing.
use Rattle.std.specs.Prelude.{cond, List, [], ℕ, eqb, length, get_or}
use Rattle.std.proofs.Math.Option.{Option, none, some}
use Rattle.lines.specs.declared.says.Entry.{Entry}
use Rattle.lines.specs.Text.{fields, content, number}

-- "The previous field is empty for scan 0 and only there." Where there is none, 0 stands in its place: it is below every Q, and the cell of
-- scan 0 does not depend on it.
unfoldable pub previous : ℕ → List ℕ → Option ℕ
previous scan c = cond (eqb scan 0) (cond (eqb (length c) 0) (some 0) none) (number c)

-- a number, if there is one, and what is made of it
abbrev pub bind : Option ℕ → (ℕ → Option Entry) → Option Entry
bind none f = none
bind (some x) f = f x

-- "scan, previous setting, setting, rate, distortion"
abbrev pub five_numbers : (scan previous setting rate distortion : Option ℕ) → Option Entry
five_numbers s p q r x =
    bind s (λ scan. bind p (λ before. bind q (λ setting. bind r (λ rate. bind x
    (λ distortion. some (record { scan = scan; previous = before; setting = setting; rate = rate; distortion = distortion }))))))

-- .. by what the five fields hold
abbrev pub says_five : (scan previous setting rate distortion : List ℕ) → Option Entry
says_five s p q r x = bind (number s) (λ scan. five_numbers (some scan) (previous scan p) (number q) (number r) (number x))

-- what a line says; "all else is malformed"
unfoldable pub says_of : List ℕ → Option Entry
says_of l =
    cond (eqb (length (fields l)) 5) (says_five (content (get_or (fields l) 0 [])) (content (get_or (fields l) 1 [])) (content (get_or (fields l) 2 []))
    (content (get_or (fields l) 3 [])) (content (get_or (fields l) 4 []))) none
