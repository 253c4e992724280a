-- `qpl::qpl_read` meets its contract: the reader over the room that is lent, and what it answers told.
use mathlib.Core.Path.{◌≡◌, ap, ◌∙◌}
use native.Mathlib.Omega.{arith}
use lib.ListN.{length}
use Rattle.planfile.specs.Reading.{read_of}
use Rattle.telling.specs.Told.{lent}
use Rattle.qpl.specs.Surface.{read_bytes}
use Rattle.telling.specs.Parts.{answer_reply}
use Rattle.telling.proofs.AnswerLaws.{tellable_as, told_as}
use Rattle.qpl.proofs.CarryLaws.{read_tellable}
use Rattle.lastly.proofs.FrontLaws.{front_length}
use Rattle.qpl.proofs.LentLaws.{read_whole}
use Rattle.qpl.proofs.qpl_read.Goals as goal
use Rattle.qpl.proofs.qpl_read.Goals.{After-read_answer}

-- what is to be told is what the reader answers over the room that is lent
said : (c : After-read_answer) →
    let a = c.args in
    answer_reply c.read_answer.result ≡ read_of a.file.now (lent read_bytes (length a.answer.now) (length a.settings.now))
said c =
    let a = c.args in
    c.read_answer.ensures
    ∙ c.read_plan.ensures.result_value
    ∙ ap (read_of a.file.now) (front_length a.settings.now c.lent-room.ensures)

pub tell-requires : goal.tell-requires
tell-requires c =
    let a = c.args in (
      omega arith,
      tellable_as (said (goal.at.tell-requires c).After-read_answer) (read_tellable a.file.now (length a.answer.now) (length a.settings.now)),
    )

pub returns : goal.returns
returns c =
    let a = c.args in record {
      told = told_as a.answer.now c.tell.result c.tell.new.answer (said (goal.at.returns c).After-read_answer) c.tell.ensures;
      settings_after = read_whole a.file.now a.settings.now c.lent-room.result (front_length a.settings.now c.lent-room.ensures)
          c.read_plan.ensures.settings_after;
    }
