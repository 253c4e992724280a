-- `planfile::read::read_plan` meets its contract: the stages, and then the settings.
use native.Mathlib.Omega.{arith}
use mathlib.Core.Path.{◌≡◌, sym, ap, ◌∙◌}
use mathlib.Core.List.{◌++◌}
use mathlib.Core.Option.{none}
use lib.ListN.{length, drop}
use lib.Seq.{length-take-le}
use Rattle.rules.specs.declared.Fields.{Fields}
use Rattle.blocks.specs.File.{entry_at}
use Rattle.planfile.specs.Reading.{fields_of, read_refusal, entries, settings_after}
use Rattle.planfile.proofs.ReadLaws.{Inside, inside}
use Rattle.planfile.proofs.read.read_plan.Goals as goal
use Rattle.planfile.proofs.read.read_plan.Goals.{After-fields-fields, In_default}

-- the stages have passed
unrefused : (c : In_default) → let a = c.args in read_refusal a.file.now (length a.settings.now) ≡ none
unrefused c = sym (c.in_default.ensures {u = tt})

within : (c : In_default) → Inside c.args.file.now (length c.args.settings.now)
within c = inside _ _ (unrefused c)

-- N is that of the file
scans_read : (c : After-fields-fields) → c.fields-fields.result.scans ≡ (fields_of c.args.file.now).scans
scans_read c = ap (λ (f : Fields). f.scans) c.fields-fields.ensures

pub fields-fields-requires : goal.fields-fields-requires
fields-fields-requires c = (within (goal.at.fields-fields-requires c).In_default).one_block

pub slice_bounds-hand_over-end : goal.slice_bounds-hand_over-end
slice_bounds-hand_over-end c =
    omega (arith, scans_read (goal.at.slice_bounds-hand_over-end c).After-fields-fields, (within (goal.at.slice_bounds-hand_over-end c).In_default).enough)

pub slice_bounds-hand_over-end-in_default : goal.slice_bounds-hand_over-end-in_default
slice_bounds-hand_over-end-in_default c =
    sym (length-take-le c.fields-fields.result.scans c.args.settings.now
    (omega (arith, scans_read (goal.at.slice_bounds-hand_over-end-in_default c).After-fields-fields, (within (goal.at.slice_bounds-hand_over-end-in_default c).In_default).enough)))

pub hand_over-requires : goal.hand_over-requires
hand_over-requires c =
    let i = within (goal.at.hand_over-requires c).In_default in
    let n = scans_read (goal.at.hand_over-requires c).After-fields-fields in
    let k = length-take-le c.fields-fields.result.scans c.args.settings.now (omega (arith, n, i.enough)) in
    record { few = omega (arith, n, i.few, k); there = λ j l. i.there j (omega (arith, n, k)) }

pub version_of-version-requires : goal.version_of-version-requires
version_of-version-requires c = omega (arith, (within (goal.at.version_of-version-requires c).In_default).one_block)

pub returns-in_default-clause-settings_after : goal.returns-in_default-clause-settings_after
returns-in_default-clause-settings_after c =
    let file = c.args.file.now in
    let s = c.args.settings.now in
    let n = c.fields-fields.result.scans in
    let e = entry_at file in
    let i = within (goal.at.returns-in_default-clause-settings_after c).In_default in
    let same = scans_read (goal.at.returns-in_default-clause-settings_after c).After-fields-fields in
    let passed = unrefused (goal.at.returns-in_default-clause-settings_after c).In_default in
    ap (λ l. l ++ drop n s) (c.hand_over.ensures ∙ ap (entries e 0) (length-take-le n s (omega (arith, same, i.enough))))
    ∙ ap (λ k. entries e 0 k ++ drop k s) same
    ∙ sym (ap (λ o. settings_after o file s) passed)
