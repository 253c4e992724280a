-- `imports::left::Left::next` meets its contract: what the line at the front says, and those behind it are left.
use Rattle.std.proofs.Common.{◌≡◌, ◌∷◌, ◌-◌, length, take, drop, sym, ap, ◌∙◌, arith, rules}
use Rattle.std.proofs.lemmas.List.{take_rest}
use Rattle.lines.specs.Parts.{said}
use Rattle.imports.specs.Left.{said_by}
use Rattle.imports.proofs.LeftLaws.{says_none, says_more}
use Rattle.imports.proofs.left.LeftIterator.next.Goals as goal
use Rattle.imports.proofs.left.LeftIterator.next.Goals.{After-behind}

pub returns-then-is_empty-clause-steps : goal.returns-then-is_empty-clause-steps
returns-then-is_empty-clause-steps c = let e = says_none c.args.self.now.text.now (search rules) in (e, e)

-- the line at the front, and what is left behind it
front : (c : After-behind) → let t = c.args.self.now.text.now in
    said_by t ≡ said c.line_at-found.result.line ∷ said_by (take (length t - c.behind.result) (drop c.behind.result t))
front c =
    let t = c.args.self.now.text.now in
    let f = c.line_at-found.ensures in
    says_more (search rules) f.0 c.behind.ensures ∙ (λ i. sym f.1 i ∷ said_by (sym (take_rest t c.behind.result) i))

pub returns-clause-steps : goal.returns-clause-steps
returns-clause-steps c = front (goal.at.returns-clause-steps c).After-behind

pub returns-clause-goes : goal.returns-clause-goes
returns-clause-goes c =
    record { on = λ _. (tt, tt, omega (arith, ap length (front (goal.at.returns-clause-goes c).After-behind))); keeps = tt; rests = λ _. tt }
