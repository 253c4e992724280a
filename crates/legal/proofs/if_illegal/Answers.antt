-- `legal::if_illegal` meets its contract.
use mathlib.Core.Path.{refl}
use Rattle.laws.proofs.Tests.{never}
use Rattle.legal.proofs.if_illegal.Goals as goal

pub returns-then-legal : goal.returns-then-legal
returns-then-legal c = record { legal = λ l. refl; illegal = λ n. absurd (n (c.legal.ensures.0 c.if-legal.true)) }

pub returns : goal.returns
returns c = record { legal = λ l. let z = c.legal.ensures.1 l in let y = c.if-legal.false in never cc; illegal = λ n. refl }
