-- The outcome as one number of 32 bits, for a place of the outcome table: an answer's number is never 0, which is left to a pair
-- that is still open. Assumes nothing.
use Rattle.std.specs.Prelude.{◌≡◌, ℕ, zero, suc, ◌+◌, ◌*◌, ◌/◌, ◌%◌, eqb}
use Rattle.std.proofs.Math.Option.{none, some}
use Rattle.stack.specs.State.{Within}
use Rattle.stack.specs.Number.{bit, number_of, state_at}
use Rattle.machine.specs.Outcome.{Maybe, Outcome}

-- the state, where there is one, tracks no more entries than the limit
abbrev pub WithinMaybe : ℕ → Maybe → Type 0
WithinMaybe limit none = Unit {0}
WithinMaybe limit (some s) = Within limit s

-- both states do, where there are any
pub record WithinOutcome (limit : ℕ) (o : Outcome) : Type 0 where
  pub ok : WithinMaybe limit o.ok
  pub err : WithinMaybe limit o.err

-- nothing is 0, a state one more than its number: 15 bits
abbrev pub maybe_number : Maybe → ℕ
maybe_number none = 0
maybe_number (some s) = number_of s + 1

-- and back
abbrev pub maybe_at : ℕ → Maybe
maybe_at zero = none
maybe_at (suc n) = some (state_at n)

-- a 1 that marks an answer, then empty (1 bit), ok (15 bits) and err (15 bits)
unfoldable pub outcome_number : Outcome → ℕ
outcome_number o = 1 + 2 * bit o.empty + 4 * maybe_number o.ok + 131072 * maybe_number o.err

-- the outcome that has a number
unfoldable pub outcome_at : ℕ → Outcome
outcome_at v = record { ok = maybe_at (v / 4 % 32768); err = maybe_at (v / 131072 % 32768); empty = eqb (v / 2 % 2) 1 }

-- a number that nothing, or some state within the limit, has
pub record NumberOfMaybe (limit n : ℕ) : Type 0 where
  pub maybe : Maybe
  pub within : WithinMaybe limit maybe
  pub number : maybe_number maybe ≡ n

-- a number that some outcome with its states within the limit has
pub record NumberOfOutcome (limit v : ℕ) : Type 0 where
  pub outcome : Outcome
  pub within : WithinOutcome limit outcome
  pub number : outcome_number outcome ≡ v
