-- `tnip::file::read_image` is safe, ends and stays inside the buffer: each turn has read at least one byte more. Assumes nothing.
use Rattle.std.proofs.Common.{◌≡◌, ◌≤◌, ◌-◌, length}
use Rattle.tnip.proofs.file.read_image.Given as goal

abbrev pub invariant-loop-n : goal.invariant-loop-n
invariant-loop-n g l = (l.n ≤ length l.image) × (length l.image ≡ length l.fn.image)

abbrev pub decreases-loop-n : goal.decreases-loop-n
decreases-loop-n g l = length l.image - l.n
