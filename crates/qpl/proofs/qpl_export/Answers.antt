-- `qpl::qpl_export` meets its contract: the export, and what it answers told.
use native.Mathlib.Omega.{arith}
use lib.ListN.{length}
use Rattle.telling.proofs.AnswerLaws.{tellable_as, told_as}
use Rattle.lastly.proofs.ExportLaws.{export_tellable}
use Rattle.qpl.proofs.qpl_export.Goals as goal

pub tell-requires : goal.tell-requires
tell-requires c =
    let a = c.args in
    let t = export_tellable a.scans a.settings a.rates.now a.distortions.now (length a.text.now) (length a.answer.now) in
    (omega arith, tellable_as c.export_told-told.ensures.result_value t)

pub returns : goal.returns
returns c =
    let said = c.export_told-told.ensures in
    record {
      told = told_as c.args.answer.now c.tell.result c.tell.new.answer said.result_value c.tell.ensures;
      text_after = said.text_after;
    }
