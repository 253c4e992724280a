-- `printing::put::Text::put_settings` meets its contract: setting behind setting.
use Rattle.std.proofs.Common.{◌≤◌, ◌+◌, ◌*◌, take}
use Rattle.printing.specs.Lines.{numbered}
use Rattle.printing.specs.Puts.{Puts}
use Rattle.printing.proofs.put.Text.put_settings.Given as goal

abbrev pub invariant-loop-s : goal.invariant-loop-s
invariant-loop-s l = record {
  put : Puts l.initial.self (numbered (take l.s-index l.settings)) l.self;
  upper_bound : l.self.at ≤ l.initial.self.at + 4 * l.s-index;
}
