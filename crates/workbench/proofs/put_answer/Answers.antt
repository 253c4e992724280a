-- `workbench::put_answer` meets its contract: what the ended text asks, and the lines for it.
use Rattle.std.proofs.Common.{arith}
use Rattle.workbench.specs.Written.{alone_bad, alone_large}
use Rattle.workbench.proofs.LineLaws.{alone_holds}
use Rattle.workbench.proofs.put_answer.Goals as goal

pub returns-in-Err-BadInput : goal.returns-in-Err-BadInput
returns-in-Err-BadInput c =
    let p = c.put.ensures in
    (_, rw c.in-Err-BadInput.field-0-is at c.in-Err-BadInput.ensures, record { same_buffer = p.same_buffer; holds = alone_holds c.requires.0 p.put (omega arith) alone_bad })

pub returns-in-Err-TooLarge : goal.returns-in-Err-TooLarge
returns-in-Err-TooLarge c =
    let p = c.put-in-Err-TooLarge.ensures in
    (_, rw c.in-Err-TooLarge.field-0-is at c.in-Err-TooLarge.ensures, record { same_buffer = p.same_buffer; holds = alone_holds c.requires.0 p.put (omega arith) alone_large })
