-- `plain::plain::plain_line` meets its contract: five fields, one behind the other.
use Rattle.plain.proofs.PlainLaws.{plain_ends, plain_says}
use Rattle.plain.proofs.plain.plain_line.Goals as goal

pub returns : goal.returns
returns c =
    let a = c.in_ok-scan.ensures in
    let b = c.in_ok-before.ensures in
    let d = c.in_ok-setting.ensures in
    let e = c.in_ok-rate.ensures in
    let f = c.in_ok-distortion.ensures in
    (plain_ends a b d e f c.requires, plain_says a b d e f c.requires)
