-- `stack::AbsStack::all_blank` meets its contract. Assumes nothing.
use native.Mathlib.Omega.{arith}
use Rattle.std.proofs.lemmas.Bool.Decides.{nat_tests}
use Rattle.stack.proofs.Fields.{all-blank-law}
use Rattle.stack.proofs.AbsStack.all_blank.Goals as goal

pub returns-then-ne : goal.returns-then-ne
returns-then-ne c = rw c.mask.ensures (grind (arith, nat_tests, all-blank-law c.args.self c.requires, c.ne.ensures))

pub returns-else-ne : goal.returns-else-ne
returns-else-ne c = grind (arith, nat_tests, all-blank-law c.args.self c.requires, c.ne.ensures)
