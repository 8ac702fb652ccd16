-- `words::picture::cell_byte` meets its contract. Assumes nothing.
use Rattle.std.proofs.Common.{arith, ◌%◌, ◌/◌, sym, ◌∙◌}
use borrow.Author.Tests.{le-ltb, lt-ltb}
use Rattle.words.specs.Line.{bytes}
use Rattle.words.specs.Picture.{cell_byte, entries}
use Rattle.words.proofs.Laws.{get_or-any}
use Rattle.words.proofs.picture.cell_byte.Goals as goal

pub returns-then-entries-i : goal.returns-then-entries-i
unfolding cell_byte
returns-then-entries-i c = rw (le-ltb (c.args.j / 8) (entries c.args.state) (omega arith))

pub returns-then-is_blank : goal.returns-then-is_blank
unfolding cell_byte
returns-then-is_blank c = rw (lt-ltb (c.args.j / 8) (entries c.args.state) (omega arith), sym c.is_blank.ensures ∙ c.if-is_blank.true) (get_or-any (bytes "[blank] ") (c.args.j % 8) 0 32 (omega arith))

pub returns-else-is_blank : goal.returns-else-is_blank
unfolding cell_byte
returns-else-is_blank c = rw (lt-ltb (c.args.j / 8) (entries c.args.state) (omega arith), sym c.is_blank.ensures ∙ c.if-is_blank.false) (get_or-any (bytes "[  ?  ] ") (c.args.j % 8) 0 32 (omega arith))
