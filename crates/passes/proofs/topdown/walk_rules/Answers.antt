-- `passes::topdown::walk_rules` meets its contract. Assumes nothing.
use Rattle.std.specs.Prelude.{Ok}
use Rattle.std.proofs.lemmas.Result.{err_from_is_err_and}
use native.Mathlib.Omega.{arith}
use mathlib.Core.Path.{sym, ap, ◌∙◌}
use Rattle.image.specs.Grammar.{grammar}
use Rattle.passes.specs.Report.{flat}
use Rattle.passes.specs.TopDown.{nodes_down}
use Rattle.passes.specs.Promise.{held, place_all}
use Rattle.passes.proofs.Places.{placed-is}
use Rattle.passes.proofs.Downs.{rules-start, rules-next, rules-early, rules_end}
use Rattle.passes.proofs.topdown.walk_rules.Goals as goal

pub loop-i-init : goal.loop-i-init
loop-i-init g c = λ due finds. ap (place_all (held c.args.table.now c.args.count)) (rules-start (grammar c.args.image.bytes.now) due)

pub returns-in_err-count : goal.returns-in_err-count
returns-in_err-count g c =
    λ due finds.
    placed-is (flat due (nodes_down (grammar c.args.image.bytes.now))) c.args.table.now c.args.count c.walk.new.table c.from_residual.result
    (rw (← c.loop-i.invariant due finds)
    (rules-early (grammar c.args.image.bytes.now) due c.loop-i.i c.root_at.result (held c.loop-i.table c.loop-i.count) (omega (arith, c.rule_count-i-end.ensures)) c.root_at.ensures.is
    _ _ _ c.walk.new.table c.in_err-count.was (err_from_is_err_and c.from_residual.result c.from_residual.ensures.1) (c.walk.ensures due finds)))

pub loop-i-preserved : goal.loop-i-preserved
loop-i-preserved g c =
    λ due finds.
    sym (rules-next (grammar c.args.image.bytes.now) due c.loop-i.i c.root_at.result (held c.loop-i.table c.loop-i.count) (omega (arith, c.rule_count-i-end.ensures)) c.root_at.ensures.is
    c.in_ok-count.count c.walk.new.table (c.in_ok-count.ensures due finds)) ∙ c.loop-i.invariant due finds

pub returns : goal.returns
returns g c =
    λ due finds.
    placed-is (flat due (nodes_down (grammar c.args.image.bytes.now))) c.args.table.now c.args.count c.loop-i.table (Ok c.loop-i.count)
    (sym (rules_end (grammar c.args.image.bytes.now) due c.loop-i.i (held c.loop-i.table c.loop-i.count) (omega (arith, c.rule_count-i-end.ensures))) ∙ c.loop-i.invariant due finds)
