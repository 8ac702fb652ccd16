-- `passes::left::run_rule` meets its contract. Assumes nothing.
use Rattle.std.proofs.lemmas.Result.{err_from_is_err_and}
use Rattle.image.specs.Grammar.{grammar}
use Rattle.passes.specs.LeftRecursion.{search_from}
use Rattle.passes.proofs.Searching.{into-refused}
use Rattle.passes.proofs.left.run_rule.Goals as goal

pub returns-in_err-find : goal.returns-in_err-find
returns-in_err-find c =
    into-refused (search_from (grammar c.args.image.bytes.now) c.args.i) c.search_from.result c.args.table.now c.args.count c.in_err-find.field-0.0 c.from_residual.result c.search_from.ensures c.in_err-find.was
    (err_from_is_err_and c.from_residual.result c.from_residual.ensures.1)
