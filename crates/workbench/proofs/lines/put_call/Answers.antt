-- `workbench::lines::put_call` meets its contract: the line is that of what the call said.
use Rattle.std.proofs.Common.{refl, arith}
use Rattle.workbench.proofs.LineLaws.{few_bytes}
use Rattle.workbench.proofs.lines.put_call.Goals as goal

pub returns-clause-line : goal.returns-clause-line
returns-clause-line g c =
    let a = c.args in
    record {
      line = _;
      right = record {
        lent = _;
        plan = _;
        scratch = _;
        given = c.call.result;
        plan' = _;
        scratch' = _;
        said = c.into-said.result;
        tables_lent = refl;
        plan_lent = refl;
        scratch_lent = refl;
        kept = c.call.ensures;
        says_so = c.into-said.ensures;
        written = refl;
      };
      put = c.put_line.ensures.put.put;
      short = omega (arith, c.put_line.ensures.upper_bound, few_bytes a.t.now.scans c.call.new.arg4 c.requires.few.0);
    }
