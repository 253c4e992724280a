-- `telling::tell` meets its contract: an answer is put, and a refusal is a word.
use Rattle.std.proofs.Common.{ap}
use Rattle.telling.specs.Parts.{answer_reply}
use Rattle.telling.proofs.AnswerLaws.{tellable_answer, answer_told, refusal_told}
use Rattle.telling.proofs.tell.Goals as goal

pub returns-in-Ok : goal.returns-in-Ok
returns-in-Ok g c =
    let e = ap answer_reply c.in-Ok.is in
    answer_told c.in-Ok.values c.args.answer.now e (tellable_answer c.in-Ok.values e c.requires) c.put_values.ensures

pub returns-in-Err : goal.returns-in-Err
returns-in-Err g c = refusal_told c.in-Err.r c.args.answer.now (ap answer_reply c.in-Err.is) c.word.ensures
