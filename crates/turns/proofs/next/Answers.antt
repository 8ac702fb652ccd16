-- `turns::next` meets its contract. Assumes nothing.
use Rattle.turns.proofs.Copies.{next-optional}
use Rattle.turns.proofs.next.Goals as goal

pub returns-else-required : goal.returns-else-required
returns-else-required c = next-optional c.args.at c.args.o c.if-required.false c.of_opt.ensures
