-- `image::marks::mark_parts` meets its contract. The invariant: the marks tally the parts of the nodes below `n`. Assumes nothing.
use Rattle.image.specs.Tally.{Tally, parts_below}
use Rattle.image.proofs.marks.mark_parts.Given as goal

abbrev pub invariant-loop-n : goal.invariant-loop-n
invariant-loop-n l = Tally l.marks (parts_below l.frame l.n)
