-- `lines::field::number_of` meets its contract: v is the number of the digits so far.
use mathlib.Core.Path.{sym, ◌∙◌}
use mathlib.Core.Bool.{false≢true}
use mathlib.Core.Logic.{inl, inr}
use borrow.Author.Tests.{eqb-true, eq-eqb}
use Prim.Native.Nat.{◌≤◌}
use native.Mathlib.Numerals.{add-one}
use native.Mathlib.Omega.{arith}
use lib.ListN.{length, get_or, length-take}
use lib.Seq.{take-suc, take_all}
use Rattle.lines.proofs.ContentLaws.{writes_more, writes_small, no_digit, written, number_none, number_long}
use Rattle.lines.proofs.field.number_of.Goals as goal
use Rattle.lines.proofs.field.number_of.Goals.{Else-not-is_digit}

pub returns-then-is_empty : goal.returns-then-is_empty
returns-then-is_empty c =
    let s = c.args.content.now in
    elim c.then-is_empty.either [ inl e ↦ number_none s (eqb-true (length s) 0 (sym c.is_empty.ensures ∙ e)) | inr n ↦ number_long s n.1 ]

pub returns-then-not-is_digit : goal.returns-then-not-is_digit
returns-then-not-is_digit c = no_digit c.args.content.now c.loop-c.c-index c.loop-c-test.true (sym c.is_digit.ensures ∙ c.if-not-is_digit.true)

-- seven digits at most
small : (c : Else-not-is_digit) → c.loop-c.v ≤ 9999999
small c = writes_small c.loop-c.invariant (simp length-take (omega arith))

pub overflow_mul-v : goal.overflow_mul-v
overflow_mul-v c = omega (arith, small (goal.at.overflow_mul-v c).Else-not-is_digit)

pub overflow_add-v : goal.overflow_add-v
overflow_add-v c = omega (arith, small (goal.at.overflow_add-v c).Else-not-is_digit)

pub loop-c-preserved : goal.loop-c-preserved
loop-c-preserved c =
    let s = c.args.content.now in
    rw (add-one, take-suc s c.loop-c.c-index 0 c.loop-c-test.true, c.value.ensures.0)
    (writes_more (get_or s c.loop-c.c-index 0) c.loop-c.invariant (sym c.is_digit.ensures ∙ c.if-not-is_digit.false))

pub returns : goal.returns
returns c =
    let s = c.args.content.now in
    written (rw (take_all c.loop-c.c-index s c.loop-c-test.false) at c.loop-c.invariant) (λ z. false≢true (c.if-is_empty.ensures ∙ eq-eqb (length s) 0 z)) c.if-content-gt-MOST_DIGITS.false
