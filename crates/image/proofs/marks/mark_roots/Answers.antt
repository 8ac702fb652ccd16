-- `image::marks::mark_roots` meets its contract by what each root adds to the tally. Assumes nothing.
use native.Mathlib.Omega.{arith}
use Rattle.image.specs.Layout.{node_count}
use Rattle.image.specs.Tally.{parts_below, roots_below}
use Rattle.image.proofs.TallyLaws.{roots-next}
use Rattle.image.proofs.marks.mark_roots.Goals as goal

pub loop-i-init : goal.loop-i-init
unfolding roots_below
loop-i-init c = c.requires

pub loop-i-preserved : goal.loop-i-preserved
loop-i-preserved c = let s = c.args.rules.now in
    rw (c.mark.ensures, c.root_at.ensures.0) (roots-next s c.loop-i.marks (parts_below s (node_count s)) c.loop-i.i (omega arith) c.loop-i.invariant)
