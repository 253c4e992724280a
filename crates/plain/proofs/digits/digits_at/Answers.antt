-- `plain::digits::digits_at` meets its contract: v is the number of the digits before i.
use mathlib.Core.Path.{◌≡◌, sym, ◌∙◌}
use Prim.Native.Nat.{◌≤◌}
use native.Mathlib.Numerals.{add-one}
use native.Mathlib.Omega.{arith}
use lib.ListN.{get_or}
use lib.Seq.{length-slice}
use Rattle.lines.proofs.LineLaws.{slice_snoc}
use Rattle.lines.proofs.ContentLaws.{writes_more, writes_small}
use Rattle.plain.proofs.DigitLaws.{digits_found}
use Rattle.plain.proofs.digits.digits_at.Goals as goal
use Rattle.plain.proofs.digits.digits_at.Goals.{Else-not-is_digit}

pub returns-then-not-is_digit : goal.returns-then-not-is_digit
returns-then-not-is_digit c = digits_found c.args.text.now c.args.from c.loop-i.i c.loop-i.invariant (omega arith) (omega arith) (omega arith)

-- at most seven digits
small : (c : Else-not-is_digit) → c.loop-i.v ≤ 9999999
small c = writes_small c.loop-i.invariant (omega (arith, length-slice c.args.from c.loop-i.i c.args.text.now (omega arith)))

pub overflow_mul-v : goal.overflow_mul-v
overflow_mul-v c = omega (arith, small (goal.at.overflow_mul-v c).Else-not-is_digit)

pub overflow_add-v : goal.overflow_add-v
overflow_add-v c = omega (arith, small (goal.at.overflow_add-v c).Else-not-is_digit)

pub loop-i-preserved : goal.loop-i-preserved
loop-i-preserved c =
    let t = c.args.text.now in
    rw (add-one, slice_snoc c.args.from c.loop-i.i t (omega arith) (omega arith), c.value.ensures.0)
    (writes_more (get_or t c.loop-i.i 0) c.loop-i.invariant (sym c.is_digit.ensures ∙ c.if-not-is_digit.false))

pub returns : goal.returns
returns c =
    let e : c.loop-i.i ≡ c.seven_on-most.result = omega arith in
    digits_found c.args.text.now c.args.from c.seven_on-most.result (rw e at c.loop-i.invariant) (omega arith) (omega arith) (omega arith)
