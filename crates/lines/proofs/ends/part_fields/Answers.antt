-- `lines::ends::part_fields` meets its contract: each comma parts a field from the rest.
use Prim.Native.Nat.{◌+◌}
use native.Mathlib.Omega.{arith}
use lib.Seq.{slice}
use Rattle.lines.proofs.FieldLaws.{one_field, more_fields, some_field, five_fields}
use Rattle.lines.proofs.ends.part_fields.Goals as goal

pub returns-in_err-first : goal.returns-in_err-first
returns-in_err-first c = let w = c.requires.1 in rw c.from_residual.ensures (λ e. omega (arith, one_field w c.in_err-first.ensures))

pub returns-in_err-second : goal.returns-in_err-second
returns-in_err-second c =
    let w = c.requires.1 in
    rw c.from_residual-in_err-second.ensures (λ e. omega (arith, more_fields w c.in_ok-first.ensures, one_field w c.in_err-second.ensures))

pub returns-in_err-third : goal.returns-in_err-third
returns-in_err-third c =
    let w = c.requires.1 in
    rw c.from_residual-in_err-third.ensures
    (λ e. omega (arith, more_fields w c.in_ok-first.ensures, more_fields w c.in_ok-second.ensures, one_field w c.in_err-third.ensures))

pub returns-in_err-fourth : goal.returns-in_err-fourth
returns-in_err-fourth c =
    let w = c.requires.1 in
    rw c.from_residual-in_err-fourth.ensures
    (λ e. omega (arith, more_fields w c.in_ok-first.ensures, more_fields w c.in_ok-second.ensures, more_fields w c.in_ok-third.ensures, one_field w c.in_err-fourth.ensures))

pub returns-in-Some : goal.returns-in-Some
returns-in-Some c =
    let w = c.requires.1 in
    λ e. omega (
      arith,
      more_fields w c.in_ok-first.ensures,
      more_fields w c.in_ok-second.ensures,
      more_fields w c.in_ok-third.ensures,
      more_fields w c.in_ok-fourth.ensures,
      more_fields w c.in-Some.ensures,
      some_field (slice (c.in-Some.field-0 + 1) c.args.end c.args.text.now),
    )

pub returns-in-None : goal.returns-in-None
returns-in-None c = five_fields c.requires.1 c.in_ok-first.ensures c.in_ok-second.ensures c.in_ok-third.ensures c.in_ok-fourth.ensures c.in-None.ensures
