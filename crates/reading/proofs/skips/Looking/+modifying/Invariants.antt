-- The measures of the cycle of calls: rules left unseen, then the node number. Assumes nothing.
use Prim.Native.Nat.{◌+◌, ◌*◌}
use Rattle.reading.proofs.skips.Looking.+modifying.Given as goal

abbrev pub decreases-found_modifies : goal.decreases-found_modifies
decreases-found_modifies l = 8192 * l.unseen + 1

abbrev pub decreases-name_modifies : goal.decreases-name_modifies
decreases-name_modifies l = 8192 * l.unseen + 2

abbrev pub decreases-node_modifies : goal.decreases-node_modifies
decreases-node_modifies l = 8192 * l.unseen + 3 + l.n

abbrev pub decreases-rule_modifies : goal.decreases-rule_modifies
decreases-rule_modifies l = 8192 * l.unseen
