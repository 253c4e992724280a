-- `printing::put::Text::put_number` meets its contract: the last digit behind those of a tenth, where it has those.
use Rattle.std.proofs.Common.{◌≡◌, sym, ap, List, [], ◌∷◌, ◌++◌, ℕ, ◌+◌, ◌/◌, ◌%◌, length, length-append, arith}
use Rattle.printing.specs.Lines.{decimal}
use Rattle.printing.specs.Puts.{Puts}
use Rattle.printing.specs.declared.put.Text.{Text}
use Rattle.printing.proofs.DecimalLaws.{decimal_one, decimal_more}
use Rattle.printing.proofs.PutsLaws.{nothing, behind, written}
use Rattle.printing.proofs.put.Text.+put_number.Goals as goal
use Rattle.printing.proofs.put.Text.+put_number.Goals.{then-x-ge10, else-x-ge10, Joined-x-ge10}

pub put_number-requires : goal.put_number-requires
put_number-requires t c =
    let e = ap length (decimal_more c.args.x c.if-x-ge10.true (omega arith)) in
    (omega arith, omega (arith, e, length-append (decimal (c.args.x / 10)) ((48 + c.args.x % 10) ∷ [])))

-- the digits before the last have been put
abbrev Front : ℕ → Text → Text → Type 0
Front x t t' = (l : List ℕ) × Puts t l t' × (decimal x ≡ l ++ ((48 + x % 10) ∷ []))

front : (t : ℕ) (c : Joined-x-ge10 t) → Front c.args.x c.args.self.now c.if-x-ge10.self
front t c =
    let x = c.args.x in
    elim c.if-x-ge10.branch [
      | then-x-ge10 w ↦ (decimal (x / 10), rw w.self-is w.put_number.ensures, decimal_more x w.if-x-ge10.true (omega arith))
      | else-x-ge10 w ↦ ([], rw w.self-is (nothing c.args.self.now), (let e : x % 10 ≡ x = omega arith in rw e (decimal_one x (omega (arith, w.if-x-ge10.false)))))
    ]

pub put-requires : goal.put-requires
put-requires t c =
    let f = front t (goal.at.put-requires t c).Joined-x-ge10 in
    omega (arith, f.1.put.end, f.1.as_long, ap length f.2, length-append f.0 ((48 + c.args.x % 10) ∷ []))

pub returns : goal.returns
returns t c =
    let f = front t (goal.at.returns t c).Joined-x-ge10 in
    written (sym f.2) (behind f.1 c.put.ensures)
