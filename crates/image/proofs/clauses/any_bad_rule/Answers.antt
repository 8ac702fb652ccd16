-- `image::clauses::any_bad_rule` meets its contract. Assumes nothing.
use Rattle.std.proofs.Common.{rules}
use Rattle.image.specs.Refusal.{bad_rule}
use Rattle.image.proofs.RangeLaws.{any_range}
use Rattle.image.proofs.clauses.any_bad_rule.Goals as goal

pub returns : goal.returns
returns c = any_range (bad_rule c.args.frame.now) _ c.rule_count.result _ (cc) (cc) c.any.ensures.ran (λ x b q k. search rules)
