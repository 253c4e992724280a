-- `imports::import::import` meets its contract: the checks, the lines, the tables.
use mathlib.Core.Path.{◌≡◌, sym}
use mathlib.Core.Option.{none}
use mathlib.Core.List.{[]}
use lib.ListN.{length}
use Rattle.std.proofs.lemmas.Result.{err_from_is_err_and}
use Rattle.lines.specs.Text.{lines}
use Rattle.imports.specs.Import.{first_fault}
use Rattle.imports.proofs.ImportLaws.{ImportAdmitted, import_admitted, ended_early, ended_judged, ended_written}
use Rattle.imports.proofs.import.import.Goals as goal
use Rattle.imports.proofs.import.import.Goals.{In_ok-size, In_ok-judged}

-- the checks have passed
admitted : (c : In_ok-size) → let a = c.args in let s = c.in_ok-size.size in ImportAdmitted s.scans s.settings (length a.rates.now) (length a.distortions.now) (length a.scratch.now)
admitted c = let s = c.in_ok-size.ensures in rw (s.same.0, s.same.1) (import_admitted _ _ _ _ _ (sym s.refusal))

-- .. and every line
faultless : (c : In_ok-judged) → let s = c.in_ok-size.size in first_fault s.scans s.settings 1 [] (lines c.args.text.now) ≡ none
faultless c = sym c.in_ok-judged.ensures.0

pub returns-in_err-size : goal.returns-in_err-size
returns-in_err-size c =
    let a = c.args in
    let p = err_from_is_err_and c.from_residual.result c.from_residual.ensures.1 in
    let e = ended_early a.scans a.settings a.text.now a.rates.now a.distortions.now a.scratch.now c.in_err-size.ensures.refusal in
    record { result_value = rw (p.1, p.2) e.answer; rates_after = e.rates_are; distortions_after = e.distortions_are; scratch_after = e.scratch_is }

pub judged-requires : goal.judged-requires
judged-requires c = (admitted (goal.at.judged-requires c).In_ok-size).scratch_long

pub returns-in_err-judged : goal.returns-in_err-judged
returns-in_err-judged c =
    let a = c.args in
    let s = c.in_ok-size.ensures in
    let p = err_from_is_err_and c.from_residual-in_err-judged.result c.from_residual-in_err-judged.ensures.1 in
    let j = rw (s.same.0, s.same.1) at c.in_err-judged.ensures in
    let e = ended_judged a.scans a.settings a.text.now a.rates.now a.distortions.now a.scratch.now (sym s.refusal) j.0 j.1 in
    record { result_value = rw (p.1, p.2) e.answer; rates_after = e.rates_are; distortions_after = e.distortions_are; scratch_after = e.scratch_is }

pub written-requires : goal.written-requires
written-requires c =
    let h = admitted (goal.at.written-requires c).In_ok-size in
    record { room = (h.rates_long, h.distortions_long); faultless = faultless (goal.at.written-requires c).In_ok-judged }

pub returns : goal.returns
returns c =
    let a = c.args in
    let s = c.in_ok-size.ensures in
    let j = rw (s.same.0, s.same.1) at c.in_ok-judged.ensures in
    let t = rw (s.same.0, s.same.1) at c.written.ensures.rates_after in
    let u = rw (s.same.0, s.same.1) at c.written.ensures.distortions_after in
    let e = ended_written a.scans a.settings a.text.now a.rates.now a.distortions.now a.scratch.now (sym s.refusal) (sym j.0) j.1 t u in
    record { result_value = e.answer; rates_after = e.rates_are; distortions_after = e.distortions_are; scratch_after = e.scratch_is }
