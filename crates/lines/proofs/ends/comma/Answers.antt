-- `lines::ends::comma` meets its contract: the first comma of the part that is searched.
use Rattle.std.proofs.Common.{◌≡◌, ◌≢◌, ◌<◌, length, ◌∙◌, rules, tests}
use Rattle.std.specs.List.{AllWithin, HoldsAt}
use Rattle.std.specs.Option.{MatchOption}
use Rattle.std.proofs.Math.Seq.{slice}
use Rattle.std.proofs.lemmas.Iterator.{IsFirst-from_position, YieldsList-from_slice}
use Rattle.lines.proofs.LineLaws.{part}
use Rattle.lines.proofs.FieldLaws.{comma_none, comma_some}
use Rattle.lines.proofs.ends.comma.Goals as goal
use Rattle.lines.proofs.ends.comma.Goals.{After-position}

-- what the search found
first : (c : After-position) → let s = slice c.args.from c.args.end c.args.text.now in
    MatchOption c.position.result (AllWithin (λ x. x ≢ 44) s 0 (length s)) (λ i. (i < length s) × HoldsAt (λ x. x ≡ 44) s i × AllWithin (λ x. x ≢ 44) s 0 i)
first c =
    let a = c.args in
    IsFirst-from_position _ _ _ (λ x. x ≡ 44) (λ x. x ≢ 44) c.position.ensures.ran
    (YieldsList-from_slice _ (c.iter.ensures.rest ∙ part a.text.now a.from a.end c.requires.0)) (λ x q k. search (rules, tests)) (λ x q k. search (rules, tests))

pub returns-in_err-at : goal.returns-in_err-at
returns-in_err-at c =
    let a = c.args in
    rw c.from_residual.ensures (comma_none a.text.now a.end c.requires.1 a.from c.requires.0 (rw c.in_err-at.was at (first (goal.at.returns-in_err-at c).After-position)))

pub returns : goal.returns
returns c =
    let a = c.args in
    let f = rw c.in_ok-at.was at (first (goal.at.returns c).After-position) in
    comma_some a.text.now a.end c.requires.1 a.from c.requires.0 c.in_ok-at.at f.0 f.1 f.2
