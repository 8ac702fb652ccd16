-- `turns::hunt_on` meets its contract. Assumes nothing.
use borrow.Author.Tests.{not-true, not-false}
use Rattle.turns.proofs.Hunts.{packed-number, hunt-cleared, hunt-loops, hunt-further}
use Rattle.turns.proofs.hunt_on.Goals as goal

pub returns-then-not-out : goal.returns-then-not-out
returns-then-not-out c = hunt-cleared (not-true c.args.out.intact c.if-not-out.true) c.none.ensures

pub add-all-requires : goal.add-all-requires
add-all-requires c = (c.requires.0, c.requires.1, packed-number c.args.cur c.requires.2 c.pack.ensures)

pub any_same_top-requires : goal.any_same_top-requires
any_same_top-requires c = (c.add-all.ensures.numbered, packed-number c.args.out c.requires.3 c.pack-2.ensures)

pub returns-then-any_same_top : goal.returns-then-any_same_top
returns-then-any_same_top c = hunt-loops (not-false c.args.out.intact c.if-not-out.false) c.requires.2 c.requires.3 c.pack.ensures c.pack-2.ensures c.add-all.ensures c.any_same_top.ensures c.if-any_same_top.true

pub returns : goal.returns
returns c = hunt-further (not-false c.args.out.intact c.if-not-out.false) c.requires.2 c.requires.3 c.pack.ensures c.pack-2.ensures c.add-all.ensures c.any_same_top.ensures c.if-any_same_top.false
