-- `stack::AbsStack::non_empty` meets its contract. Assumes nothing.
use Rattle.stack.proofs.Fields.{non-empty-law}
use Rattle.stack.proofs.AbsStack.non_empty.Goals as goal

pub returns : goal.returns
returns c = non-empty-law c.args.self
