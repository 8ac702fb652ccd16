-- `tables::home_of` meets its contract. Assumes nothing.
use borrow.Author.Tests.{lt-ltb, le-ltb}
use Rattle.tables.specs.Probing.{home}
use Rattle.tables.proofs.home_of.Goals as goal

pub returns-then-n-lt4294967296 : goal.returns-then-n-lt4294967296
unfolding home
returns-then-n-lt4294967296 c = rw (lt-ltb _ _ c.if-n-lt4294967296.true, ← c.hash_of-h.ensures)

pub returns-else-n-lt4294967296 : goal.returns-else-n-lt4294967296
unfolding home
returns-else-n-lt4294967296 c = rw (le-ltb _ _ c.if-n-lt4294967296.false) c.hash_of-h.ensures
