-- `tables::report::word_at` meets its contract. Assumes nothing.
use mathlib.Core.Path.{sym, ◌∙◌}
use Rattle.tables.proofs.Words.{words-at}
use Rattle.tables.proofs.report.word_at.Goals as goal

pub returns : goal.returns
returns c = c.read.ensures.value ∙ sym (words-at c.args.t.now c.args.i c.requires)
