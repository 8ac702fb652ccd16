-- `words::owner::top_of` meets its contract: the invariant is that `at` is reached by way of the nodes below m. Assumes nothing.
use Rattle.std.proofs.Common.{◌≡◌}
use Rattle.image.specs.Grammar.{grammar}
use Rattle.words.specs.Owner.{top_to}
use Rattle.words.proofs.owner.top_of.Given as goal

abbrev pub invariant-loop-m : goal.invariant-loop-m
invariant-loop-m l = l.at ≡ top_to (grammar l.image.bytes.now) l.n l.m
