-- `analysis::stack_pass` meets its contract. Assumes nothing.
use mathlib.Core.Path.{refl, sym, ◌∙◌}
use borrow.Author.Rules.{rules}
use Rattle.analysis.proofs.WholePass.{pass-ready, pass-skipped, pass-refused, pass-given, lent_tables}
use Rattle.analysis.proofs.stack_pass.Goals as goal

pub returns-then-skips_modify : goal.returns-then-skips_modify
returns-then-skips_modify c = pass-skipped c.args.table.now c.args.count c.requires.0 c.requires.1 c.args.memo.now c.args.walked.now c.clear.ensures c.clear-2.ensures c.args.names.image.bytes.now (sym c.skips_modify.ensures ∙ c.if-skips_modify.true)

pub walk_rules-walked_all-requires : goal.walk_rules-walked_all-requires
walk_rules-walked_all-requires c = pass-ready c.args.table.now c.args.count c.requires.0 c.requires.1 c.args.memo.now c.args.walked.now _ (lent_tables c.args.memo.now c.args.walked.now c.clear.ensures c.clear-2.ensures) refl c.skips.ensures

pub returns-in-Ok : goal.returns-in-Ok
returns-in-Ok c = pass-given c.args.table.now c.args.count c.requires.0 c.requires.1 c.args.memo.now c.args.walked.now _ (lent_tables c.args.memo.now c.args.walked.now c.clear.ensures c.clear-2.ensures) refl (sym c.skips_modify.ensures ∙ c.if-skips_modify.false) c.walk_rules-walked_all.ensures.answers _ _ c.clear-3.ensures c.clear-4.ensures (search rules) (search rules) c.in-Ok.is (search rules)

pub returns-in-Err : goal.returns-in-Err
returns-in-Err c = pass-refused c.args.table.now c.args.count c.requires.0 c.requires.1 c.args.memo.now c.args.walked.now _ (lent_tables c.args.memo.now c.args.walked.now c.clear.ensures c.clear-2.ensures) refl (sym c.skips_modify.ensures ∙ c.if-skips_modify.false) c.walk_rules-walked_all.ensures.answers _ _ c.clear-3.ensures c.clear-4.ensures (search rules) (search rules) c.in-Err.is _ c.clear-in-Err.ensures (search rules)
