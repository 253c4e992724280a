-- `lastly::export_told` meets its contract: the answer buffer is one more check behind those of the export.
use mathlib.Core.Path.{ap, ◌∙◌}
use lib.ListN.{length}
use Rattle.exports.specs.Export.{export_answered}
use Rattle.lastly.specs.Lastly.{asked_last}
use Rattle.lastly.proofs.ExportLaws.{export_last, text_told}
use Rattle.lastly.proofs.FrontLaws.{front_length, text_whole}
use Rattle.lastly.proofs.export_told.Goals as goal

pub returns : goal.returns
returns c =
    let a = c.args in
    let called = c.export-told.ensures in
    let front = front_length a.text.now c.lent-room.ensures in record {
      result_value = c.asked_last.ensures
          ∙ ap (asked_last 8 a.answer) (c.export_answer.ensures ∙ called.result_value ∙ ap (export_answered a.scans a.settings a.rates.now a.distortions.now) front)
          ∙ export_last a.scans a.settings a.rates.now a.distortions.now (length a.text.now) a.answer;
      text_after = text_whole a.scans a.settings a.rates.now a.distortions.now a.text.now c.lent-room.result front called.text_after
          ∙ text_told a.scans a.settings a.rates.now a.distortions.now (length a.text.now) a.answer a.text.now;
    }
