-- `image::names::any_shared` meets its contract. Assumes nothing.
use Rattle.std.proofs.Common.{rules}
use Rattle.image.specs.Refusal.{shares_earlier}
use Rattle.image.proofs.RangeLaws.{any_range}
use Rattle.image.proofs.names.any_shared.Goals as goal

pub returns : goal.returns
returns c = any_range (shares_earlier c.args.rules.now) _ c.rule_count.result _ (cc) (cc) c.any.ensures.ran (λ x b q k. search rules)
