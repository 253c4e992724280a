-- `planfile::header::faults` meets its contract.
use native.Mathlib.Omega.{arith}
use mathlib.Core.Path.{◌∙◌}
use Rattle.octets.specs.Bytes.{part}
use Rattle.octets.proofs.PartLaws.{part_length}
use Rattle.blocks.proofs.DifferLaws.{zeros_differ}
use Rattle.planfile.proofs.HeaderLaws.{told_faults}
use Rattle.planfile.proofs.header.faults.Goals as goal

pub returns : goal.returns
returns c =
    let file = c.args.file.now in
    told_faults file c.args.scans c.version_of-version.result c.requires.1 c.version_of-version.ensures c.wrong_length.ensures c.run_13_wrong.ensures
    (c.not_zero.ensures ∙ zeros_differ 2 (part 14 2 file) (part_length 14 2 file (omega arith)))
    (c.not_zero-2.ensures ∙ zeros_differ 460 (part 48 460 file) (part_length 48 460 file (omega arith)))
