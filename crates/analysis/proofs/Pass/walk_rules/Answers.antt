-- `Pass::walk_rules` meets its contract. Assumes nothing.
use native.Mathlib.Omega.{arith}
use Rattle.analysis.proofs.On.{same-trans, handed-on}
use Rattle.analysis.proofs.WholePass.{walk_start, walk-done, walk_refused, walk-again}
use Rattle.analysis.proofs.Pass.walk_rules.Goals as goal

pub loop-i-init : goal.loop-i-init
loop-i-init c = walk_start c.requires

pub root_at-requires : goal.root_at-requires
root_at-requires c = rw c.loop-i.invariant.same.image (omega (arith, c.loop-i-test.true, c.rule_count-n.ensures))

pub visit-requires : goal.visit-requires
visit-requires c = (c.loop-i.invariant.ready, c.entry.ensures.well_formed, c.root_at.ensures.below)

pub returns-in_err-visit : goal.returns-in_err-visit
returns-in_err-visit c = record { same = same-trans c.loop-i.invariant.same c.visit.ensures.same; answers = handed-on c.from_residual.ensures (walk_refused c.loop-i.invariant (omega (arith, c.loop-i-test.true, c.rule_count-n.ensures)) c.root_at.ensures.is _ c.entry.ensures.state c.visit.ensures.answers c.in_err-visit.was) }

pub loop-i-preserved : goal.loop-i-preserved
loop-i-preserved c = walk-again c.loop-i.invariant (omega (arith, c.loop-i-test.true, c.rule_count-n.ensures)) c.root_at.ensures.is _ c.entry.ensures.state c.visit.ensures.answers c.in_ok-visit.was c.visit.ensures.same (omega arith)

pub returns : goal.returns
returns c = record { same = c.loop-i.invariant.same; answers = walk-done c.loop-i.invariant (omega (arith, c.loop-i-test.false, c.rule_count-n.ensures)) }
