-- `workbench::lines::put_refused` meets its contract: the refusal on both lines.
use Rattle.std.proofs.Common.{◌∙◌, arith}
use Rattle.workbench.proofs.LineLaws.{refused_put}
use Rattle.workbench.proofs.lines.put_refused.Goals as goal

pub returns : goal.returns
returns c =
    let p = c.put_line.ensures.put in
    let q = c.put_line-2.ensures.put in
    record { same_buffer = q.same_buffer ∙ p.same_buffer; holds = refused_put c.requires.0 p.put q.put (omega arith) }
