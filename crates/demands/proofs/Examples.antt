-- The two reports of reason 3 that document 01 gives as numbers, read back. Assumes nothing.
use mathlib.Core.Path.{◌≡◌, refl}
use mathlib.Core.Bool.{false}
use mathlib.Core.List.{[]}
use Rattle.stack.specs.declared.Base.TheVariants.{Empty}
use Rattle.stack.specs.State.{entry}
use Rattle.stack.specs.Number.{state_at}
use Rattle.demands.specs.Report.{node_in, state_number_in, state_in, reason_in}

-- `(PUSH("") ~ POP)*`: the Rep is node 4, and loops from the state that every rule is walked from
loop-at-entry : (node_in 14495514628 ≡ 4) × (state_in 14495514628 ≡ entry) × (reason_in 14495514628 ≡ 3)
unfolding node_in state_number_in state_in reason_in state_at
loop-at-entry = (refl, refl, refl)

-- `POP_ALL ~ PEEK_ALL*`: the Rep is node 2, and loops from the empty stack
loop-when-empty : (node_in 12884901890 ≡ 2) × (state_in 12884901890 ≡ record { base = Empty; tops = []; intact = false }) × (reason_in 12884901890 ≡ 3)
unfolding node_in state_number_in state_in reason_in state_at
loop-when-empty = (refl, refl, refl)
