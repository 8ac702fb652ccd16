-- `passes::left::run` meets its contract. Assumes nothing.
use Rattle.std.specs.Prelude.{Ok}
use Rattle.std.proofs.lemmas.Result.{err_from_is_err_and}
use native.Mathlib.Omega.{arith}
use mathlib.Core.Path.{sym, ◌∙◌}
use Rattle.image.specs.Grammar.{grammar}
use Rattle.passes.specs.Promise.{held}
use Rattle.passes.proofs.Searching.{left-start, left-next, left-stopped, left_end, left_is}
use Rattle.passes.proofs.left.run.Goals as goal

pub loop-i-init : goal.loop-i-init
loop-i-init c = left-start (grammar c.args.image.bytes.now) (held c.args.table.now c.args.count.now)

pub returns-in_err-count : goal.returns-in_err-count
returns-in_err-count c =
    left_is (grammar c.args.image.bytes.now) c.args.table.now c.args.count.now c.run_rule.new.table c.loop-i.count c.from_residual.result
    (left-stopped (grammar c.args.image.bytes.now) c.loop-i.i c.loop-i.table c.loop-i.count (omega (arith, c.rule_count-i-end.ensures)) _ _ c.from_residual.result c.run_rule.new.table
    c.in_err-count.was (err_from_is_err_and c.from_residual.result c.from_residual.ensures.1) c.run_rule.ensures
    ∙ c.loop-i.invariant)

pub loop-i-preserved : goal.loop-i-preserved
loop-i-preserved c =
    sym (left-next (grammar c.args.image.bytes.now) c.loop-i.i (held c.loop-i.table c.loop-i.count) (omega (arith, c.rule_count-i-end.ensures)) c.in_ok-count.field-0 c.run_rule.new.table c.in_ok-count.ensures)
    ∙ c.loop-i.invariant

pub returns : goal.returns
returns c =
    left_is (grammar c.args.image.bytes.now) c.args.table.now c.args.count.now c.loop-i.table c.loop-i.count (Ok tt)
    (left_end (grammar c.args.image.bytes.now) c.loop-i.i (held c.loop-i.table c.loop-i.count) (omega (arith, c.rule_count-i-end.ensures)) ∙ c.loop-i.invariant)
