-- `stack::AbsStack::fresh` meets its contract. Assumes nothing.
use mathlib.Core.Path.{refl}
use Rattle.stack.specs.State.{fresh}
use Rattle.stack.proofs.AbsStack.fresh.Goals as goal

pub returns : goal.returns
unfolding fresh
returns c = record { state = refl; well_formed = record { within = c.requires.within; fits = c.requires.fits } }
