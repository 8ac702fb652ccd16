-- `passes::topdown::note` meets its contract. Assumes nothing.
use Rattle.std.specs.Prelude.{Some, None}
use Rattle.passes.specs.Promise.{held, place_all}
use Rattle.passes.proofs.Places.{place-one}
use Rattle.passes.proofs.topdown.note.Goals as goal

pub returns-in-Some : goal.returns-in-Some
returns-in-Some g c = λ due finds. rw (← finds (Some c.in-Some.x) c.in-Some.ensures, place-one (held c.args.table.now c.args.count) c.in-Some.x) c.put.ensures

pub returns-in-None : goal.returns-in-None
unfolding place_all
returns-in-None g c = λ due finds. rw (← finds None c.in-None.ensures)
