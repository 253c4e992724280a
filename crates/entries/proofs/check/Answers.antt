-- `entries::check` meets its contract: entry after entry.
use native.Mathlib.Omega.{arith}
use mathlib.Core.Path.{◌≡◌, sym, ap, ◌∙◌}
use mathlib.Core.Bool.{false}
use Prim.Native.Nat.{◌+◌, ◌-◌}
use borrow.Author.Count.{below_more}
use Rattle.std.proofs.Common.{rules}
use Rattle.tables.specs.declared.refusal.Refusal.TheVariants as refusal
use Rattle.tables.specs.Law.{allows}
use Rattle.checks.proofs.CheckLaws.{none_when}
use Rattle.blocks.proofs.FoundLaws.{found_at}
use Rattle.entries.specs.Entries.{entry_broken}
use Rattle.entries.proofs.EntryLaws.{breaks_entry}
use Rattle.entries.proofs.check.Given as given
use Rattle.entries.proofs.check.Goals as goal
use Rattle.entries.proofs.check.Goals.{After-entry_wrong}

-- what was read is the entry, and what was asked of it is its rule
judged : (g : given.Over) (c : After-entry_wrong g) →
    let f = c.args.f in
    (c.from-setting.result ≡ g.e c.loop-j.j) × (c.entry_wrong.result ≡ entry_broken f.scans f.settings (allows f.law) g.e c.loop-j.j)
judged g c =
    let f = c.args.f in
    let l = c.loop-j in
    let read : c.from-setting.result ≡ g.e l.j = c.from-setting.ensures ∙ c.requires.1.1 l.j c.entry.result c.loop-j-test.true c.entry.ensures in
    (read, c.entry_wrong.ensures ∙ breaks_entry f.scans f.settings (allows f.law) g.e l.j l.before c.from-setting.result l.invariant.0 read)

pub returns-in_err-unless : goal.returns-in_err-unless
returns-in_err-unless g c =
    let f = c.args.f in
    let l = c.loop-j in
    let bad = entry_broken f.scans f.settings (allows f.law) g.e in
    let e = found_at refusal.Entry bad c.args.count l.j l.invariant.1 c.loop-j-test.true (judged g (goal.at.returns-in_err-unless g c).After-entry_wrong).1 c.in_err-unless.ensures in
    search rules

pub loop-j-preserved : goal.loop-j-preserved
loop-j-preserved g c =
    let f = c.args.f in
    let l = c.loop-j in
    let j = judged g (goal.at.loop-j-preserved g c).After-entry_wrong in
    let same : l.j + 1 - 1 ≡ l.j = omega arith in
    let kept = none_when c.entry_wrong.result (refusal.Entry l.j) (sym (c.in_ok-unless.ensures {u = tt})) in
    (λ _. j.0 ∙ ap g.e (sym same), below_more (λ i. entry_broken f.scans f.settings (allows f.law) g.e i ≡ false) l.j l.invariant.1 (sym j.1 ∙ kept))
