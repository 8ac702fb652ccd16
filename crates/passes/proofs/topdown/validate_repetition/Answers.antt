-- `passes::topdown::validate_repetition` meets its contract. Assumes nothing.
use Rattle.std.proofs.Common.{rules}
use Rattle.image.specs.Grammar.{grammar}
use Rattle.passes.specs.TopDown.{repetition_at, validate_repetition}
use Rattle.passes.proofs.topdown.validate_repetition.Goals as goal

pub returns : goal.returns
unfolding validate_repetition
returns c = c.walk_rules.ensures (repetition_at (grammar c.args.image.bytes.now)) (λ m r l p. search rules)
