-- `image::marks::mark_roots` meets its contract. The invariant: the marks tally the roots of the rules below `i` and all parts. Assumes nothing.
use mathlib.Core.List.{◌++◌}
use Rattle.image.specs.Layout.{node_count}
use Rattle.image.specs.Tally.{Tally, parts_below, roots_below}
use Rattle.image.proofs.marks.mark_roots.Given as goal

abbrev pub invariant-loop-i : goal.invariant-loop-i
invariant-loop-i l = Tally l.marks (roots_below l.rules l.i ++ parts_below l.rules (node_count l.rules))
