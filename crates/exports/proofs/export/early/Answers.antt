-- `exports::export::early` meets its contract: the checks in their order.
use native.Mathlib.Omega.{arith}
use Rattle.std.proofs.lemmas.Grind.{common_steps}
use Rattle.exports.proofs.EarlyLaws.{table_sizes, judged_found}
use Rattle.exports.proofs.export.early.Goals as goal

pub judge_plain-requires : goal.judge_plain-requires
judge_plain-requires c = table_sizes c.args.scans c.args.settings _ _ c.in_ok-plain_front.ensures

pub returns : goal.returns
returns c = let f = judged_found _ _ c.judge_plain.ensures in grind (arith, common_steps)
