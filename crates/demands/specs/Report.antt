-- A report number read back: "A report is node + 65,536 × state + 2^32 × reason". Assumes nothing.
use Rattle.std.specs.Prelude.{ℕ, ◌/◌, ◌%◌}
use Rattle.stack.specs.State.{State}
use Rattle.stack.specs.Number.{state_at}

unfoldable pub node_in : ℕ → ℕ
node_in r = r % 65536

-- "A state is one small number"
unfoldable pub state_number_in : ℕ → ℕ
state_number_in r = r / 65536 % 65536

-- the state that has it
unfoldable pub state_in : ℕ → State
state_in r = state_at (state_number_in r)

unfoldable pub reason_in : ℕ → ℕ
reason_in r = r / 4294967296
