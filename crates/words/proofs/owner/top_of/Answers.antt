-- `words::owner::top_of` meets its contract: the invariant is that `at` is reached by way of the nodes below m. Assumes nothing.
use Rattle.std.proofs.Common.{refl, sym, ◌∙◌}
use Rattle.image.specs.Grammar.{grammar}
use Rattle.words.specs.Owner.{top_to}
use Rattle.words.proofs.Laws.{top-next, cond-true, cond-false}
use Rattle.words.proofs.owner.top_of.Goals.{then-is_part, else-is_part}
use Rattle.words.proofs.owner.top_of.Goals as goal

pub loop-m-init : goal.loop-m-init
unfolding top_to
loop-m-init c = refl

pub loop-m-preserved : goal.loop-m-preserved
loop-m-preserved c = rw (top-next (grammar c.args.image.bytes.now) c.args.n c.loop-m.m, ← c.loop-m.invariant, ← c.expr_at.ensures.is)
    (elim c.if-is_part.branch [ then-is_part w ↦ w.at-is ∙ cond-true _ (sym c.is_part.ensures ∙ w.if-is_part.true) | else-is_part w ↦ w.at-is ∙ cond-false _ (sym c.is_part.ensures ∙ w.if-is_part.false) ])
