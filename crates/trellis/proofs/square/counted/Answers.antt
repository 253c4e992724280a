-- `trellis::square::counted` meets its contract: what is weighed is 0 or a legal cell.
use Rattle.std.proofs.Common.{◌≡◌, ◌∙◌, ap, Bool, cond, ℕ, ◌*◌, nat_eq, arith}
use Rattle.tables.specs.Limits.{forbidden}
use Rattle.trellis.specs.Square.{shut_by, counted_of}
use Rattle.trellis.proofs.ClosedLaws.{closed_tells, product_small}
use Rattle.trellis.proofs.square.counted.Goals as goal
use Rattle.trellis.proofs.square.counted.Goals.{After-choose}

-- what is weighed
weighed : (c : After-choose) →
    let a = c.args in
    c.choose.result ≡ cond (shut_by a.ceiling a.rate a.plain) 0 a.plain
weighed c =
    let a = c.args in
    c.choose.ensures ∙ ap (λ (x : ℕ). cond (nat_eq x forbidden) 0 a.plain) c.closed.ensures
    ∙ ap (λ (t : Bool). cond t 0 a.plain) (closed_tells a.ceiling a.rate a.plain)

pub overflow_mul-result : goal.overflow_mul-result
overflow_mul-result c =
    let a = c.args in
    omega (
      arith,
      ap (λ (x : ℕ). a.weight * x) (weighed (goal.at.overflow_mul-result c).After-choose),
      product_small a.ceiling a.rate a.plain a.weight c.requires,
    )

pub returns : goal.returns
unfolding counted_of
returns c = ap (λ (x : ℕ). c.args.weight * x) (weighed (goal.at.returns c).After-choose)
