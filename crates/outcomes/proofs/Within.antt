-- What is well formed, and what a promise is kept with, has its states within the limit. Assumes nothing.
use Rattle.std.specs.Prelude.{Option, Some, None}
use Rattle.stack.specs.declared.AbsStack.{AbsStack}
use Prim.Native.Nat.{◌<◌}
use Rattle.stack.specs.State.{Within, max_len}
use Rattle.stack.specs.Number.{number_of}
use Rattle.stack.specs.Promise.{state_of, WellFormed}
use Rattle.stack.proofs.Bits.{tracked-length}
use Rattle.stack.proofs.Numbers.{number_of-lt}
use Rattle.machine.specs.Outcome as M
use Rattle.outcomes.specs.declared.Outcome.{Outcome}
use Rattle.outcomes.specs.Promise.{maybe_of, outcome_of, FormedMaybe, Formed, IsMaybe, IsOutcome}
use Rattle.outcomes.specs.Word.{WithinMaybe, WithinOutcome, outcome_number, NumberOfOutcome}
use Rattle.outcomes.proofs.Words.{number-of-outcome}

pub state-within : (s : AbsStack) → WellFormed max_len s → Within max_len (state_of s)
state-within s h = rw (tracked-length s.len s.blank) h.within

-- so its number is of 15 bits
pub number_below : (s : AbsStack) → WellFormed max_len s → number_of (state_of s) < 32768
number_below s h = number_of-lt (state_of s) (state-within s h)

pub maybe-within : (m : Option AbsStack) → FormedMaybe m → WithinMaybe max_len (maybe_of m)
maybe-within None h = tt
maybe-within (Some s) h = state-within s h

pub outcome-within : (o : Outcome) → Formed o → WithinOutcome max_len (outcome_of o)
outcome-within o h = record { ok = maybe-within o.ok h.ok; err = maybe-within o.err h.err }

-- what a promise settles
pub is-maybe-within : {t : M.Maybe} (r : Option AbsStack) → IsMaybe t r → WithinMaybe max_len t
is-maybe-within r h = rw (← h.maybe) (maybe-within r h.formed)

pub is-outcome-within : {t : M.Outcome} (r : Outcome) → IsOutcome t r → WithinOutcome max_len t
is-outcome-within r h = rw (← h.outcome) (outcome-within r h.formed)

-- so the number that is kept of an answer can be read back
pub is-outcome-number : {t : M.Outcome} (r : Outcome) → IsOutcome t r → NumberOfOutcome max_len (outcome_number t)
is-outcome-number {t} r h = number-of-outcome t (is-outcome-within r h)
