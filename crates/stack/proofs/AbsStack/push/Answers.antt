-- `stack::AbsStack::push` meets its contract. Assumes nothing.
use Rattle.stack.proofs.Fields.{push-short, push-full, no-entries}
use Rattle.stack.proofs.AbsStack.push.Goals as goal

pub returns-then-self-lt-MAX_LEN : goal.returns-then-self-lt-MAX_LEN
returns-then-self-lt-MAX_LEN c = rw c.from.ensures (push-short c.args.self c.args.blank c.requires c.if-self-lt-MAX_LEN.true)

pub returns-else-self-lt-MAX_LEN : goal.returns-else-self-lt-MAX_LEN
returns-else-self-lt-MAX_LEN c = no-entries (push-full c.args.self c.args.blank c.if-self-lt-MAX_LEN.false)
