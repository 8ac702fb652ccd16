-- `tables::le::read` meets its contract. Assumes nothing.
use mathlib.Core.Path.{◌∙◌}
use native.Mathlib.Omega.{arith}
use Rattle.tables.proofs.Bytes.{le_at-lt}
use Rattle.tables.proofs.Library.{read-le}
use Rattle.tables.proofs.le.read.Goals as goal

pub returns-clause-value : goal.returns-clause-value
returns-clause-value c = c.from_le_bytes.ensures ∙ read-le c.args.n _ c.args.t.now c.copy_from_slice.new.self c.args.a c.requires.0 c.requires.1 (omega arith) c.copy_from_slice.ensures.after

pub returns-clause-upper_bound : goal.returns-clause-upper_bound
returns-clause-upper_bound c = rw (returns-clause-value c) (le_at-lt c.args.n c.args.t.now c.args.a (λ i. (c.type_inv.t i).fits))
