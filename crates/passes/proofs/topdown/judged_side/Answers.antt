-- `passes::topdown::judged_side` meets its contract. Assumes nothing.
use native.Mathlib.Omega.{arith}
use mathlib.Core.Path.{sym, ap, ◌∙◌}
use Rattle.image.specs.Grammar.{grammar}
use Rattle.passes.specs.TopDown.{is_choice}
use Rattle.passes.proofs.Downs.{no-choice, side_right, side-self}
use Rattle.passes.proofs.topdown.judged_side.Goals as goal

pub returns-in-Choice : goal.returns-in-Choice
returns-in-Choice c =
    let at = c.in-Choice.ensures in
    (side_right (grammar c.args.image.bytes.now) c.args.left _ c.in-Choice.right (sym at.is), omega (arith, at.below.1.0, c.requires))

pub returns-in_default : goal.returns-in_default
returns-in_default c =
    (side-self (grammar c.args.image.bytes.now) c.args.left (ap is_choice (sym c.expr_at.ensures.is) ∙ no-choice c.expr_at.result c.in_default.not-Choice), c.requires)
