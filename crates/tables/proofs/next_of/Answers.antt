-- `tables::next_of` meets its contract. Assumes nothing.
use mathlib.Core.Path.{sym}
use Rattle.tables.proofs.Probing.{next-end, next_more}
use Rattle.tables.proofs.next_of.Goals as goal

pub returns-then-i-n : goal.returns-then-i-n
returns-then-i-n c = sym (next-end _ _ c.if-i-n.true)

pub returns-else-i-n : goal.returns-else-i-n
returns-else-i-n c = sym (next_more _ _ c.if-i-n.false)
