-- `stack::number::unpack` meets its contract. Assumes nothing.
use Rattle.stack.proofs.Fields.{unpack-law}
use Rattle.stack.proofs.number.unpack.Goals as goal

pub returns : goal.returns
returns c = rw c.base_at.ensures (unpack-law c.args.n c.requires)
