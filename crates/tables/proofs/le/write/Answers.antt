-- `tables::le::write` meets its contract. Assumes nothing.
use mathlib.Core.Path.{ap, ◌∙◌}
use mathlib.Core.List.{List}
use Prim.Native.Nat.{ℕ}
use native.Mathlib.Omega.{arith}
use lib.ListN.{take}
use Rattle.tables.proofs.Library.{write-le}
use Rattle.tables.proofs.le.write.Goals as goal

pub returns : goal.returns
returns c = write-le c.args.n _ c.args.t.now _ c.args.a c.args.v c.requires.0 c.requires.1 (omega arith) (c.copy_from_slice.ensures.after ∙ ap (λ (s : List ℕ). take c.args.n s) c.to_le_bytes.ensures)
