-- `floor::answer` meets its contract: n and d over their common divisor, and the floor there.
use native.Mathlib.Omega.{arith}
use Prim.Native.Nat.{◌/◌, ◌≤◌}
use Rattle.floor.proofs.FloorLaws.{lowest_terms, small_terms, bought_small, reduced_by}
use Rattle.tables.proofs.Bounds.{cost_small}
use Rattle.floor.proofs.answer.Goals as goal
use Rattle.floor.proofs.answer.Goals.{After-common-g}

-- n and d over the common divisor are within their limits
terms : (c : After-common-g) → (1 ≤ c.common-g.result) × ((c.args.at.n / c.common-g.result ≤ c.args.at.n) ×
    ((1 ≤ c.args.at.d / c.common-g.result) × (c.args.at.d / c.common-g.result ≤ c.args.at.d)))
terms c =
    let a = c.args in
    let l = lowest_terms a.at.n a.at.d (omega arith) in
    let s = small_terms a.at.n a.at.d in
    rw c.common-g.ensures (l.0, (s.0, (l.1, s.1)))

pub nonzero_div-lowest : goal.nonzero_div-lowest
nonzero_div-lowest c = (terms (goal.at.nonzero_div-lowest c).After-common-g).0

pub nonzero_div-lowest-2 : goal.nonzero_div-lowest-2
nonzero_div-lowest-2 c = (terms (goal.at.nonzero_div-lowest-2 c).After-common-g).0

pub cost-amount-requires : goal.cost-amount-requires
cost-amount-requires c =
    let a = c.args in
    let t = terms (goal.at.cost-amount-requires c).After-common-g in
    omega (arith, cost_small {n = a.at.n / c.common-g.result} {d = a.at.d / c.common-g.result} {D = a.totals.distortion.0} {R = a.totals.rate.0} (omega arith) (omega arith) (omega arith) (omega arith))

pub floor-requires : goal.floor-requires
floor-requires c =
    let a = c.args in
    let t = terms (goal.at.floor-requires c).After-common-g in (
      omega (arith, c.cost-amount.ensures, cost_small {n = a.at.n / c.common-g.result} {d = a.at.d / c.common-g.result} {D = a.totals.distortion.0} {R = a.totals.rate.0} (omega arith) (omega arith) (omega arith) (omega arith)),
      bought_small a.budget t.1.0 c.requires.budget_bound,
    )

pub invariant_of-lowest : goal.invariant_of-lowest
invariant_of-lowest c =
    let t = terms (goal.at.invariant_of-lowest c).After-common-g in
    record { in_range = (omega (arith, t.1.0, c.args.at.in_range.0), (t.1.1.0, omega (arith, t.1.1.1, c.args.at.in_range.1.1))) }

pub returns : goal.returns
returns c =
    let t = terms (goal.at.returns c).After-common-g in
    reduced_by c.common-g.ensures t.1.1.0 c.cost-amount.ensures c.floor.ensures
