-- `tables::report::set_word` meets its contract. Assumes nothing.
use native.Mathlib.Omega.{arith}
use Rattle.tables.proofs.Words.{stored}
use Rattle.tables.proofs.report.set_word.Goals as goal

pub returns : goal.returns
returns c = rw c.write.ensures (stored c.args.t.now c.args.i c.args.x c.requires (omega arith))
