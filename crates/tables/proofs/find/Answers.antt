-- `tables::find` meets its contract. The loop's invariant: the search from i on with the places that are left has the answer of the
-- whole search. Assumes nothing.
use native.Mathlib.Nat.{sub-zero}
use native.Mathlib.Omega.{arith}
use Rattle.tables.specs.Probing.{probe}
use Rattle.tables.proofs.Table.{probed}
use Rattle.tables.proofs.Probing.{search-start, search-hit, search-gap, search-on, search-end}
use Rattle.tables.proofs.find.Goals as goal

pub loop-init : goal.loop-init
unfolding probe
loop-init g c = rw sub-zero (search-start _ _ _ _ c.home_of-i.ensures)

pub returns-then-there-key : goal.returns-then-there-key
returns-then-there-key g c = rw (← c.VALUE-size.ensures) (probed _ _ _ _ _ (search-hit _ _ _ _ _ c.read-there.ensures.value _ _ c.loop.invariant (omega arith) c.if-there-key.true))

pub returns-then-there-eq0 : goal.returns-then-there-eq0
returns-then-there-eq0 g c = rw (← c.VALUE-size.ensures) (probed _ _ _ _ _ (search-gap _ _ _ _ _ c.read-there.ensures.value _ _ c.loop.invariant (omega arith) c.if-there-key.false c.if-there-eq0.true))

pub loop-preserved : goal.loop-preserved
loop-preserved g c = search-on _ _ _ _ _ c.read-there.ensures.value _ _ _ _ c.loop.invariant (omega arith) c.if-there-key.false c.if-there-eq0.false c.next_of-i.ensures

pub returns : goal.returns
returns g c = rw (← c.VALUE-size.ensures) (probed _ _ _ _ _ (search-end _ _ _ _ _ _ c.loop.invariant (omega arith)))
