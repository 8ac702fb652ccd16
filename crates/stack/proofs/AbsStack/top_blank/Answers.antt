-- `stack::AbsStack::top_blank` meets its contract. Assumes nothing.
use mathlib.Core.Path.{◌∙◌, ap}
use mathlib.Core.Bool.{not}
use native.Mathlib.Omega.{arith}
use borrow.Author.Tests.{eq-eqb}
use Rattle.stack.proofs.Fields.{top-law, top-none}
use Rattle.stack.proofs.AbsStack.top_blank.Goals as goal

pub returns-then-self-ne0 : goal.returns-then-self-ne0
returns-then-self-ne0 c = top-law c.args.self (omega arith)

pub returns-else-self-ne0 : goal.returns-else-self-ne0
returns-else-self-ne0 c = ap not (eq-eqb _ _ c.if-self-ne0.false) ∙ top-none c.args.self c.if-self-ne0.false
