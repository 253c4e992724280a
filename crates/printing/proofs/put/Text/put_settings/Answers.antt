-- `printing::put::Text::put_settings` meets its contract: setting behind setting.
use Rattle.std.proofs.Common.{ap, ◌≤◌, length, arith}
use lib.Seq.{take_all}
use Rattle.printing.specs.Lines.{decimal, numbered}
use Rattle.printing.proofs.DecimalLaws.{length_byte}
use Rattle.printing.proofs.TextLaws.{numbered_more}
use Rattle.printing.proofs.PutsLaws.{nothing, behind, written}
use Rattle.printing.proofs.put.Text.put_settings.Goals as goal
use Rattle.printing.proofs.put.Text.put_settings.Goals.{After-from}

-- a byte has three digits at most
short : (c : After-from) → length (decimal c.from.result) ≤ 3
short c = rw c.from.ensures (length_byte _ (c.type_inv.settings c.loop-s.s-index).fits)

pub loop-s-init : goal.loop-s-init
loop-s-init c = record { put = nothing c.args.self.now; upper_bound = omega arith }

pub put_spaced-requires : goal.put_spaced-requires
put_spaced-requires c = omega (arith, short (goal.at.put_spaced-requires c).After-from)

pub loop-s-preserved : goal.loop-s-preserved
loop-s-preserved c =
    record {
      put = written (numbered_more c.args.settings.now c.loop-s.s-index c.loop-s-test.true)
          (behind c.loop-s.invariant.put (rw c.from.ensures at c.put_spaced.ensures));
      upper_bound = omega (arith, short (goal.at.loop-s-preserved c).After-from);
    }

pub returns : goal.returns
returns c =
    record {
      put = written (ap numbered (take_all c.loop-s.s-index c.args.settings.now c.loop-s-test.false)) c.loop-s.invariant.put;
      upper_bound = omega arith;
    }
