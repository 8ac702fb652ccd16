-- `stack::AbsStack::popped_all` meets its contract. Assumes nothing.
use mathlib.Core.Path.{◌∙◌}
use Rattle.stack.specs.State.{popped_all}
use Rattle.stack.proofs.Fields.{is-empty-base-law, no-entries}
use Rattle.stack.proofs.AbsStack.popped_all.Goals as goal

pub returns-then-self : goal.returns-then-self
unfolding popped_all
returns-then-self c = no-entries (rw (c.eq.ensures ∙ is-empty-base-law c.args.self.base, c.if-self.true))

pub returns-else-self : goal.returns-else-self
unfolding popped_all
returns-else-self c = no-entries (rw c.if-self.false)
