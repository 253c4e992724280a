-- `telling::word` meets its contract: the number, and what is carried above it.
use native.Mathlib.Omega.{arith}
use Rattle.telling.proofs.AnswerLaws.{number_small, word_refused}
use Rattle.telling.proofs.word.Goals as goal

pub overflow_add-result : goal.overflow_add-result
overflow_add-result c = record { fits = omega (arith, number_small c.args.r) }

pub returns : goal.returns
returns c = omega (arith, word_refused c.args.r)
