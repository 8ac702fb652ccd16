-- `stack::AbsStack::same_top` meets its contract. Assumes nothing.
use native.Mathlib.Omega.{arith}
use Rattle.std.proofs.lemmas.Bool.Decides.{nat_tests}
use Rattle.stack.proofs.Fields.{same-top-law}
use Rattle.stack.proofs.AbsStack.same_top.Goals as goal

pub returns-then-self-other : goal.returns-then-self-other
returns-then-self-other c = let h = same-top-law c.args.self c.args.other c.requires.0 c.requires.1 in grind (arith, nat_tests)

pub returns-else-self-other : goal.returns-else-self-other
returns-else-self-other c = let h = same-top-law c.args.self c.args.other c.requires.0 c.requires.1 in grind (arith, nat_tests)
