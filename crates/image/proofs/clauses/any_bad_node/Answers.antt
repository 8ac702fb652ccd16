-- `image::clauses::any_bad_node` meets its contract. Assumes nothing.
use Rattle.std.proofs.Common.{rules}
use Rattle.image.specs.Refusal.{bad_node}
use Rattle.image.proofs.RangeLaws.{any_range}
use Rattle.image.proofs.clauses.any_bad_node.Goals as goal

pub returns : goal.returns
returns c = any_range (bad_node c.args.frame.now) _ c.node_count.result _ (cc) (cc) c.any.ensures.ran (λ x b q k. search rules)
