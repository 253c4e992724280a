-- `lines::says::previous` meets its contract: an empty field at scan 0 and only there.
use mathlib.Core.Path.{◌≡◌, sym, ap, ◌∙◌}
use mathlib.Core.Bool.{Bool, cond}
use mathlib.Core.List.{List}
use mathlib.Core.Option.{some, none}
use Prim.Native.Nat.{ℕ, ◌-◌}
use lib.Dec.{eqb}
use lib.ListN.{length, take, drop}
use lib.Seq.{slice}
use Rattle.lines.specs.Text.{content, number}
use Rattle.lines.specs.Parts.{said}
use Rattle.lines.proofs.LineLaws.{part}
use Rattle.lines.proofs.SaidLaws.{previous_zero, previous_later, said-then_some}
use Rattle.lines.proofs.says.previous.Goals as goal
use Rattle.lines.proofs.says.previous.Goals.{After-inside}

-- what was borrowed is the content
borrowed : (c : After-inside) → let a = c.args in let s = c.inside.result in take (s.end - s.start) (drop s.start a.text.now) ≡ content (slice a.from a.to a.text.now)
borrowed c = part c.args.text.now c.inside.result.start c.inside.result.end c.inside.ensures.0 ∙ c.inside.ensures.1.1

pub returns-then-scan-eq0 : goal.returns-then-scan-eq0
returns-then-scan-eq0 c =
    let b = borrowed (goal.at.returns-then-scan-eq0 c).After-inside in
    ap said c.then_some.ensures ∙ said-then_some c.is_empty.result 0
    ∙ ap (λ (t : Bool). cond t (some 0) none) (c.is_empty.ensures ∙ ap (λ (l : List ℕ). eqb (length l) 0) b)
    ∙ sym (previous_zero c.args.scan _ c.if-scan-eq0.true)

pub returns : goal.returns
returns c = c.number_of.ensures ∙ ap number (borrowed (goal.at.returns c).After-inside) ∙ sym (previous_later c.args.scan _ c.if-scan-eq0.false)
