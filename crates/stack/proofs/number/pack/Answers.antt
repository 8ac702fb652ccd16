-- `stack::number::pack` meets its contract. Assumes nothing.
use Rattle.stack.proofs.Fields.{pack-law}
use Rattle.stack.proofs.number.pack.Goals as goal

pub returns : goal.returns
returns c = rw (c.from.ensures, c.from-2.ensures, c.from-3.ensures) (pack-law c.args.s c.requires)
