-- `tables::find` meets its contract. The loop's invariant: the search from i on with the places that are left has the answer of the
-- whole search. Assumes nothing.
use Prim.Native.Nat.{◌-◌}
use Rattle.tables.specs.Places.{key_at}
use Rattle.tables.specs.Probing.{probe}
use Rattle.tables.proofs.Probing.{Search}
use Rattle.tables.proofs.find.Given as goal

abbrev pub invariant-loop : goal.invariant-loop
invariant-loop g l = Search (key_at 4 l.size l.t) l.n l.key (l.n - l.counter) l.i (probe 4 l.size l.t l.key)
