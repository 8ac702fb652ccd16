-- `words::owner::rule_of` meets its contract: the invariant is that `rule` is the one among those below i. Assumes nothing.
use borrow.Author.Tests.{eq-eqb, ne_eqb}
use Rattle.std.proofs.Common.{refl, ◌∙◌}
use Rattle.image.specs.Grammar.{grammar}
use Rattle.words.specs.Owner.{rule_to}
use Rattle.words.proofs.Laws.{rule-next, cond-true, cond-false}
use Rattle.words.proofs.owner.rule_of.Goals.{then-root_at-root, else-root_at-root}
use Rattle.words.proofs.owner.rule_of.Goals as goal

pub loop-i-init : goal.loop-i-init
unfolding rule_to
loop-i-init c = refl

pub loop-i-preserved : goal.loop-i-preserved
loop-i-preserved c = rw (rule-next (grammar c.args.image.bytes.now) c.args.root c.loop-i.i, ← c.loop-i.invariant, ← c.root_at.ensures.is)
    (elim c.if-root_at-root.branch [ then-root_at-root w ↦ w.rule-is ∙ cond-true _ (eq-eqb _ _ w.if-root_at-root.true) | else-root_at-root w ↦ w.rule-is ∙ cond-false _ (ne_eqb _ _ w.if-root_at-root.false) ])
