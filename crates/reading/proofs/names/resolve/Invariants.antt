-- The invariants of `reading::names::resolve`: the words below `n` are settled. Assumes nothing.
use Prim.Native.Nat.{ℕ, ◌<◌}
use mathlib.Core.Path.{◌≡◌}
use lib.ListN.{length, get_or}
use Rattle.image.specs.Grammar.{grammar}
use Rattle.reading.specs.Names.{WordAt}
use Rattle.reading.proofs.names.resolve.Given as goal

abbrev pub invariant-loop-n : goal.invariant-loop-n
invariant-loop-n l = (length l.names ≡ 2048) × ((k : ℕ) → k < l.n → WordAt (grammar l.image.bytes.now) k (get_or l.names k 0))

abbrev pub invariant-loop-n-2 : goal.invariant-loop-n-2
invariant-loop-n-2 l = (length l.names ≡ 2048) × ((k : ℕ) → k < l.n → WordAt (grammar l.image.bytes.now) k (get_or l.names k 0))
