-- The left search in one cycle of calls: the measure of each member. Assumes nothing.
use Prim.Native.Nat.{◌+◌, ◌*◌}
use Rattle.passes.proofs.left.Quest.+entering.Given as goal

abbrev pub decreases-check_both : goal.decreases-check_both
decreases-check_both l = 2 * l.left + 1

abbrev pub decreases-check_name : goal.decreases-check_name
decreases-check_name l = 2 * l.left + 1

abbrev pub decreases-enter : goal.decreases-enter
decreases-enter l = 2 * l.left
