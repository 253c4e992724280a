-- `qpl::qpl_room` meets its contract: the room question, and what it answers told.
use native.Mathlib.Omega.{arith}
use lib.ListN.{length}
use Rattle.telling.proofs.AnswerLaws.{tellable_as, told_as}
use Rattle.lastly.proofs.LastLaws.{room_tellable}
use Rattle.qpl.proofs.qpl_room.Goals as goal

pub tell-requires : goal.tell-requires
tell-requires c = let a = c.args in (omega arith, tellable_as c.room_told.ensures (room_tellable a.channels a.scans a.settings (length a.answer.now)))

pub returns : goal.returns
returns c = told_as c.args.answer.now c.tell.result c.tell.new.answer c.room_told.ensures c.tell.ensures
