-- `Pass::walk_rules` meets its contract. Assumes nothing.
use Rattle.analysis.proofs.WholePass.{Walking}
use Rattle.analysis.proofs.Pass.walk_rules.Given as goal

abbrev pub invariant-loop-i : goal.invariant-loop-i
invariant-loop-i l = Walking l.fn.self l.self l.i
