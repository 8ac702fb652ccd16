-- `thatchnip::only_rules` meets its contract: of the words so far the rule is kept. Assumes nothing.
use Rattle.thatchnip.proofs.Entry.{RulesSoFar}
use Rattle.thatchnip.proofs.only_rules.Given as goal

abbrev pub invariant-loop-word : goal.invariant-loop-word
invariant-loop-word l = RulesSoFar l.initial.word-items l.word-items l.word-index
