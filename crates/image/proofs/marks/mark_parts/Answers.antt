-- `image::marks::mark_parts` meets its contract by what each node's parts add to the tally. Assumes nothing.
use mathlib.Core.Path.{◌≡◌}
use native.Mathlib.Omega.{arith}
use Rattle.image.specs.Kinds.{listed, parts_of}
use Rattle.image.specs.Lists.{AllBelow}
use Rattle.image.specs.Layout.{node_count, node_expr}
use Rattle.image.proofs.TallyLaws.{parts_next, parts_within}
use Rattle.image.proofs.marks.mark_parts.Goals as goal

pub mark_node-requires : goal.mark_node-requires
mark_node-requires c = let s = c.args.frame.now in
    rw (c.parts_in.ensures, c.node_expr.ensures) (parts_within s (node_count s) c.loop-n.n (omega arith) c.requires.0 (omega arith))

pub loop-n-preserved : goal.loop-n-preserved
loop-n-preserved c = let s = c.args.frame.now in
    let e : listed c.parts_in.result ≡ parts_of (node_expr s c.loop-n.n) = rw (← c.node_expr.ensures) c.parts_in.ensures in
    let w : AllBelow 2048 (listed c.parts_in.result) = rw e (parts_within s (node_count s) c.loop-n.n (omega arith) c.requires.0 (omega arith)) in
    rw c.mark_node.ensures (parts_next s c.loop-n.marks c.loop-n.n c.parts_in.result e w c.loop-n.invariant)
