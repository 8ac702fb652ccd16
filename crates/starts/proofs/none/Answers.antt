-- `starts::none` meets its contract. Assumes nothing.
use mathlib.Core.Path.{refl}
use native.Mathlib.Omega.{arith}
use Prim.Native.Nat.{ℕ}
use lib.ListN.{length-replicate}
use Rattle.starts.specs.Promise.{newest_first}
use Rattle.starts.proofs.none.Goals as goal

pub returns : goal.returns
unfolding newest_first
returns c = record { is = refl; none = refl; starts = refl; numbered = record { few = omega arith; long = length-replicate {A = ℕ} 65 0; each = λ i l. absurd (omega arith) } }
