-- `stack::AbsStack::is_empty` meets its contract. Assumes nothing.
use native.Mathlib.Omega.{arith}
use Rattle.std.proofs.lemmas.Bool.Decides.{nat_tests}
use Rattle.stack.proofs.Fields.{is-empty-law}
use Rattle.stack.proofs.AbsStack.is_empty.Goals as goal

pub returns-then-eq : goal.returns-then-eq
returns-then-eq c = grind (arith, nat_tests, is-empty-law c.args.self, c.eq.ensures)

pub returns-else-eq : goal.returns-else-eq
returns-else-eq c = grind (arith, nat_tests, is-empty-law c.args.self, c.eq.ensures)
