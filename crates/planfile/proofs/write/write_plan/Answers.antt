-- `planfile::write::write_plan` meets its contract: the stages, and then the bytes.
use mathlib.Core.Path.{◌≡◌, sym, ap, ◌∙◌}
use mathlib.Core.Option.{none}
use lib.ListN.{length}
use Rattle.planfile.specs.Writing.{write_refusal, file_after}
use Rattle.planfile.proofs.WriteLaws.{all_inside, settings_small, left_behind}
use Rattle.planfile.proofs.write.write_plan.Goals as goal
use Rattle.planfile.proofs.write.write_plan.Goals.{In_default}

-- the stages have passed
unrefused : (c : In_default) → let a = c.args in write_refusal a.f a.settings.now (length a.file.now) ≡ none
unrefused c = sym (c.in_default.ensures {u = tt})

pub put_file-requires : goal.put_file-requires
put_file-requires c =
    let a = c.args in
    let e = unrefused (goal.at.put_file-requires c).In_default in
    let i = all_inside a.f a.settings.now (length a.file.now) e in
    record {
      scans_le_most_scans = (i.0, i.1.1);
      scans_in_bounds = (i.1.0, settings_small a.f a.settings.now (length a.file.now) e);
    }

pub returns-in_default-clause-file_after : goal.returns-in_default-clause-file_after
returns-in_default-clause-file_after c =
    let a = c.args in
    let e = unrefused (goal.at.returns-in_default-clause-file_after c).In_default in
    let room = (all_inside a.f a.settings.now (length a.file.now) e).1.1 in
    c.put_file.ensures.1
    ∙ left_behind a.f a.settings.now a.file.now room
    ∙ sym (ap (λ o. file_after o a.f a.settings.now a.file.now) e)
