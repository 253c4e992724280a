-- What the call is lent, as a question. Assumes nothing.
use Rattle.fits.specs.declared.asked.Asked.{Asked}
use Rattle.fits.specs.Fits.{Question, question}

abbrev pub question_in : Asked → Question
question_in a = question a.scans a.settings a.law a.budget a.rates.now a.distortions.now
