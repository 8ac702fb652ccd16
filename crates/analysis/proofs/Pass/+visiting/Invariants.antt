-- The stack pass in one cycle of calls: the measure of each member, 8 × the open nodes left and a rank, and what the three loops keep. Assumes nothing.
use Prim.Native.Nat.{◌-◌, ◌*◌, ◌+◌}
use Rattle.analysis.proofs.Loops.{Roaming, Searching, Stepping}
use Rattle.analysis.proofs.Pass.+visiting.Given as goal

abbrev pub decreases-choice : goal.decreases-choice
decreases-choice l = 8 * l.down.left + 2

abbrev pub decreases-greedy : goal.decreases-greedy
decreases-greedy l = 8 * l.down.left + 4

abbrev pub decreases-ident : goal.decreases-ident
decreases-ident l = 8 * l.down.left + 2

abbrev pub decreases-loops_forever : goal.decreases-loops_forever
decreases-loops_forever l = 8 * l.left + 2

abbrev pub decreases-outcome : goal.decreases-outcome
decreases-outcome l = 8 * l.left

abbrev pub decreases-repeat : goal.decreases-repeat
decreases-repeat l = 8 * l.down.left + 5

abbrev pub decreases-repeat_bounded : goal.decreases-repeat_bounded
decreases-repeat_bounded l = 8 * l.down.left + 5

abbrev pub decreases-rule : goal.decreases-rule
decreases-rule l = 8 * l.left + 1

abbrev pub decreases-search_loop : goal.decreases-search_loop
decreases-search_loop l = 8 * l.down.left + 3

abbrev pub decreases-seq : goal.decreases-seq
decreases-seq l = 8 * l.down.left + 2

abbrev pub decreases-step : goal.decreases-step
decreases-step l = 8 * l.down.left + 6

abbrev pub decreases-steps : goal.decreases-steps
decreases-steps l = 8 * l.down.left + 4

abbrev pub decreases-visit : goal.decreases-visit
decreases-visit l = 8 * l.down.left + 1

abbrev pub invariant-greedy-loop-down : goal.invariant-greedy-loop-down
invariant-greedy-loop-down l = Roaming l.fn.self l.down l.part l.fn.s l.empty l.self l.run l.at l.first l.still l.ends

abbrev pub decreases-greedy-loop-down : goal.decreases-greedy-loop-down
decreases-greedy-loop-down l = 64 - l.run.count

abbrev pub invariant-loops_forever-loop : goal.invariant-loops_forever-loop
invariant-loops_forever-loop l = Searching l.fn.self l.left l.part l.fn.s l.self l.seen l.cur l.counter

abbrev pub invariant-steps-loop-done : goal.invariant-steps-loop-done
invariant-steps-loop-done l = Stepping l.fn.self l.down l.part l.required l.copies l.fn.s l.empty l.self l.run l.at l.done l.still l.fails
