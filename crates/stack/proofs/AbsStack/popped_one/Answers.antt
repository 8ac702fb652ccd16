-- `stack::AbsStack::popped_one` meets its contract. Assumes nothing.
use native.Mathlib.Omega.{arith}
use Rattle.stack.specs.declared.Base.TheVariants.{Blank, Any}
use Rattle.stack.proofs.Fields.{popped-top, popped-empty, popped-base, no-entries}
use Rattle.stack.proofs.AbsStack.popped_one.Goals as goal

pub returns-then-self-gt0 : goal.returns-then-self-gt0
returns-then-self-gt0 c = rw c.mask.ensures (popped-top c.args.self c.requires c.if-self-gt0.true)

pub returns-in-Empty : goal.returns-in-Empty
returns-in-Empty c = popped-empty c.args.self c.requires (omega arith) c.in-Empty.is

pub returns-in-Blank : goal.returns-in-Blank
returns-in-Blank c = no-entries (popped-base c.args.self Blank (omega arith) c.in-Blank.is)

pub returns-in-Any : goal.returns-in-Any
returns-in-Any c = no-entries (popped-base c.args.self Any (omega arith) c.in-Any.is)
