-- `passes::topdown::repetition_at` meets its contract. Assumes nothing.
use native.Mathlib.Omega.{arith}
use mathlib.Core.Path.{sym, ap, ◌∙◌}
use Rattle.image.specs.Grammar.{grammar}
use Rattle.image.proofs.GrammarLaws.{formed}
use Rattle.passes.specs.TopDown.{is_repeat}
use Rattle.passes.proofs.Downs.{no-repeat, repetition-none, repetition-some}
use Rattle.passes.proofs.topdown.repetition_at.Goals as goal

pub repeat_report-requires : goal.repeat_report-requires
repeat_report-requires c = omega (arith, c.requires, (formed _ c.args.image.accepted).few-nodes)

pub returns-in-Rep : goal.returns-in-Rep
returns-in-Rep c =
    repetition-some (grammar c.args.image.bytes.now) c.args.n c.in-Rep.part c.bits_at.result c.expr_at.result c.repeat_report.result c.expr_at.ensures.is c.in-Rep.is c.bits_at.ensures.is c.repeat_report.ensures

pub returns-in_default : goal.returns-in_default
returns-in_default c =
    repetition-none (grammar c.args.image.bytes.now) c.args.n
    (ap is_repeat (sym c.expr_at.ensures.is) ∙ no-repeat c.expr_at.result c.in_default.not-Rep c.in_default.not-RepOnce c.in_default.not-RepMin)
