-- `image::marks::any_not_below` meets its contract. Assumes nothing.
use Rattle.std.proofs.Common.{rules}
use Rattle.image.specs.Refusal.{part_not_below}
use Rattle.image.proofs.RangeLaws.{any_range}
use Rattle.image.proofs.marks.any_not_below.Goals as goal

pub returns : goal.returns
returns c = any_range (part_not_below c.args.frame.now) _ c.node_count.result _ (cc) (cc) c.any.ensures.ran (λ x b q k. search rules)
