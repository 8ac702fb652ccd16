-- `words::number::number` meets its contract: the invariant is that n is the number of the bytes so far. Assumes nothing.
use Rattle.std.proofs.Common.{◌≡◌, ◌<◌}
use Rattle.words.specs.Number.{number_to}
use Rattle.words.proofs.number.number.Given as goal

abbrev pub invariant-loop-b : goal.invariant-loop-b
invariant-loop-b l = (l.n ≡ number_to l.text l.b-index) × (l.n < 4294967296)
