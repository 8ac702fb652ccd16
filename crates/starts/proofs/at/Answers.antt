-- `starts::at` meets its contract. Assumes nothing.
use mathlib.Core.Path.{refl}
use native.Mathlib.Omega.{arith}
use Prim.Native.Nat.{◌-◌}
use Rattle.starts.proofs.Spots.{start-at}
use Rattle.starts.proofs.at.Goals as goal

pub returns : goal.returns
returns c = let run = c.args.run in
    let back = c.args.back in
    let l = c.requires.1 in
    record { is = refl; state = λ other. start-at run.states run.count back l other; number = c.requires.0.each (run.count - 1 - back) (omega arith) }
