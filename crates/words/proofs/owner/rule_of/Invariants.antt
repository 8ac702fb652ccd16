-- `words::owner::rule_of` meets its contract: the invariant is that `rule` is the one among those below i. Assumes nothing.
use Rattle.std.proofs.Common.{◌≡◌}
use Rattle.image.specs.Grammar.{grammar}
use Rattle.words.specs.Owner.{rule_to}
use Rattle.words.proofs.owner.rule_of.Given as goal

abbrev pub invariant-loop-i : goal.invariant-loop-i
invariant-loop-i l = l.rule ≡ rule_to (grammar l.image.bytes.now) l.root l.i
