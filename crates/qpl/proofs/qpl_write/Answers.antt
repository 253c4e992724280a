-- `qpl::qpl_write` meets its contract: the writer, and its refusal as a word.
use mathlib.Core.Path.{sym, ap, ◌∙◌}
use lib.ListN.{length}
use Rattle.planfile.specs.Writing.{write_reply}
use Rattle.telling.specs.Told.{word_of}
use Rattle.qpl.specs.Surface.{fields_told}
use Rattle.qpl.proofs.CarryLaws.{write_carries, was_refused, write_back}
use Rattle.qpl.proofs.qpl_write.Goals as goal

pub map_or-requires : goal.map_or-requires
map_or-requires c r e =
    let a = c.args in
    let f = was_refused c.write_plan.result c.err.ensures.value e in
    write_carries
    (fields_told a.scans a.settings a.law a.kind a.budget a.n a.d a.rate a.distortion a.peak a.floor a.weighted)
    a.plan.now (length a.file.now) r (sym c.write_plan.ensures.result_value ∙ ap write_reply f)

pub returns-clause-value : goal.returns-clause-value
returns-clause-value c = write_back c.write_plan.result c.err.ensures.value c.map_or.ensures ∙ ap word_of c.write_plan.ensures.result_value
