-- `qpl::qpl_fits` meets its contract: the call, and what it answers told.
use Rattle.std.proofs.Common.{length, arith}
use Rattle.fits.specs.Fits.{question}
use Rattle.telling.proofs.AnswerLaws.{tellable_as, told_as}
use Rattle.lastly.proofs.LastLaws.{fits_tellable}
use Rattle.qpl.proofs.qpl_fits.Goals as goal

pub tell-requires : goal.tell-requires
tell-requires c =
    let a = c.args in
    let said = c.fits_told.ensures in
    (omega arith, tellable_as said.told (fits_tellable (length a.answer.now) (question a.scans a.settings a.law a.budget a.rates.now a.distortions.now) said.kept))

pub returns : goal.returns
returns c =
    let said = c.fits_told.ensures in
    record {
      given = said.given;
      kept = said.kept;
      told = told_as c.args.answer.now c.tell.result c.tell.new.answer said.told c.tell.ensures;
    }
