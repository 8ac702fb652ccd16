-- `turns::ended` meets its contract. Assumes nothing.
use Rattle.turns.proofs.Copies.{period-ended}
use Rattle.turns.proofs.ended.Goals as goal

pub returns : goal.returns
returns c = period-ended c.at.ensures c.unpack-end.ensures
