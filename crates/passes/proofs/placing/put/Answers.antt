-- `passes::placing::put` meets its contract. Assumes nothing.
use Rattle.passes.proofs.Places.{put-there, put-none}
use Rattle.passes.proofs.placing.put.Goals as goal

pub returns-then-table-count : goal.returns-then-table-count
returns-then-table-count c = put-none c.args.table.now c.args.count c.args.x c.if-table-count.true

pub returns : goal.returns
returns c = put-there c.args.table.now c.set_word.new.t c.args.count c.args.x c.if-table-count.false c.set_word.ensures
