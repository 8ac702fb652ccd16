-- `tables::hash_of` meets its contract. Assumes nothing.
use Rattle.tables.specs.Probing.{hash}
use borrow.Author.Rules.{rules}
use Rattle.tables.proofs.hash_of.Goals as goal

pub returns : goal.returns
unfolding hash
returns c = search rules
