-- `qpl::qpl_import` meets its contract: the import, and what it ended with told.
use mathlib.Core.Path.{sym, ap, ◌∙◌}
use mathlib.Core.List.{[]}
use native.Mathlib.Omega.{arith}
use lib.ListN.{length}
use Rattle.tables.specs.Refusals.{ended}
use Rattle.checks.specs.Checks.{or_answer}
use Rattle.telling.specs.Told.{word_of}
use Rattle.imports.proofs.CarriedLaws.{import_carries}
use Rattle.qpl.proofs.CarryLaws.{was_refused, import_back}
use Rattle.qpl.proofs.qpl_import.Goals as goal

pub map_or-requires : goal.map_or-requires
map_or-requires c r e =
    let a = c.args in
    let f = was_refused c.import.result c.err.ensures.value e in
    omega (arith, import_carries a.scans a.settings a.text.now (length a.rates.now) (length a.distortions.now) (length a.scratch.now) (sym c.import.ensures.result_value ∙ ap ended f))

pub returns-clause-value : goal.returns-clause-value
returns-clause-value c =
    import_back c.import.result c.err.ensures.value c.map_or.ensures ∙ ap (λ o. word_of (or_answer o [])) c.import.ensures.result_value
