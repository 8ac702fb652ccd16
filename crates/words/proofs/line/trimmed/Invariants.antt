-- `words::line::trimmed` meets its contract: the invariant is that all bytes after what is kept are spaces. Assumes nothing.
use Rattle.std.proofs.Common.{◌≡◌, ◌≤◌, length, take}
use Rattle.words.specs.Line.{trimmed_to}
use Rattle.words.proofs.line.trimmed.Given as goal

abbrev pub invariant-loop-kept : goal.invariant-loop-kept
invariant-loop-kept l =
    (length l.kept ≤ length l.text) × (l.kept ≡ take (length l.kept) l.text) × (trimmed_to l.text (length l.text) ≡ trimmed_to l.text (length l.kept))

abbrev pub decreases-loop-kept : goal.decreases-loop-kept
decreases-loop-kept l = length l.kept
