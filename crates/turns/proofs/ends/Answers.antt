-- `turns::ends` meets its contract. Assumes nothing.
use Rattle.turns.proofs.Copies.{ends_more}
use Rattle.turns.proofs.ends.Goals as goal

pub returns-in-Some : goal.returns-in-Some
returns-in-Some c = ends_more c.args.first c.args.at c.in-Some.field-0 c.args.err c.args.ok c.in-Some.is c.failed.ensures c.restored.ensures c.joined.ensures c.joined-in-Some.ensures
