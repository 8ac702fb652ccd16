-- `passes::topdown::validate_choices` meets its contract. Assumes nothing.
use Rattle.std.proofs.Common.{rules}
use Rattle.image.specs.Grammar.{grammar}
use Rattle.passes.specs.TopDown.{choice_at, validate_choices}
use Rattle.passes.proofs.topdown.validate_choices.Goals as goal

pub returns : goal.returns
unfolding validate_choices
returns c = c.walk_rules.ensures (choice_at (grammar c.args.image.bytes.now)) (λ m r l p. search rules)
