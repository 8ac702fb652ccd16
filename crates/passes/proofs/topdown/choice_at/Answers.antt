-- `passes::topdown::choice_at` meets its contract. Assumes nothing.
use native.Mathlib.Omega.{arith}
use mathlib.Core.Path.{sym, ap, ◌∙◌}
use Rattle.std.specs.Option.{option_to_list}
use Rattle.image.specs.Grammar.{grammar}
use Rattle.image.proofs.GrammarLaws.{formed}
use Rattle.passes.specs.TopDown.{is_choice}
use Rattle.passes.proofs.Downs.{no-choice, choice-none, choice-some, side-report}
use Rattle.passes.proofs.topdown.choice_at.Goals as goal

pub report_of-requires : goal.report_of-requires
report_of-requires c = omega (arith, c.judged_side-side.ensures.1, (formed _ c.args.image.accepted).few-nodes)

pub returns-in_default : goal.returns-in_default
returns-in_default c = choice-none (grammar c.args.image.bytes.now) c.args.n (ap is_choice (sym c.expr_at.ensures.is) ∙ no-choice c.expr_at.result c.in_default.not-Choice)

pub returns : goal.returns
returns c =
    choice-some (grammar c.args.image.bytes.now) c.args.n c.in-Choice.left c.in-Choice.field-1 c.judged_side-side.result c.bits_at.result _
    (sym c.in-Choice.ensures.is) c.judged_side-side.ensures.0 c.bits_at.ensures.is (ap option_to_list c.then_some.ensures ∙ side-report _ _ _ c.report_of.ensures)
