-- Node, state and reason are read back from a report number. Assumes nothing.
use mathlib.Core.Path.{◌≡◌, ap}
use Prim.Native.Nat.{ℕ, ◌<◌}
use native.Mathlib.Omega.{arith}
use Rattle.stack.specs.Number.{state_at}
use Rattle.tables.specs.Report.{report}
use Rattle.demands.specs.Report.{node_in, state_number_in, state_in, reason_in}

module _ (node state reason : ℕ) (small : node < 65536) (few : state < 65536) where
  pub node-back : node_in (report node state reason) ≡ node
  unfolding node_in
  node-back = omega arith

  pub state-number-back : state_number_in (report node state reason) ≡ state
  unfolding state_number_in
  state-number-back = omega arith

  pub state-back : state_in (report node state reason) ≡ state_at state
  unfolding state_in
  state-back = ap state_at state-number-back

  pub reason-back : reason_in (report node state reason) ≡ reason
  unfolding reason_in
  reason-back = omega arith
