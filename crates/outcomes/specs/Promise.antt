-- What the code's promises say: the state or nothing that an enum stands for, the outcome that a struct stands for, and which of
-- them are well formed. Assumes nothing.
use Rattle.std.specs.Prelude.{◌≡◌, Option, Some, None}
use Rattle.std.proofs.Math.Option.{none, some}
use Rattle.stack.specs.State.{max_len}
use Rattle.stack.specs.Promise.{state_of, WellFormed}
use Rattle.machine.specs.Outcome as M
use Rattle.outcomes.specs.declared.Outcome.{Outcome}
use Rattle.stack.specs.declared.AbsStack.{AbsStack}

-- "an enum of state or nothing": what each case stands for
abbrev pub maybe_of : Option AbsStack → M.Maybe
maybe_of None = none
maybe_of (Some s) = some (state_of s)

-- "ok state or none, err state or none, and empty"
abbrev pub outcome_of : Outcome → M.Outcome
outcome_of o = record { ok = maybe_of o.ok; err = maybe_of o.err; empty = o.empty }

-- the state, where there is one, is well formed
abbrev pub FormedMaybe : Option AbsStack → Type 0
FormedMaybe None = Unit {0}
FormedMaybe (Some s) = WellFormed max_len s

-- both states are, where there are any
pub record Formed (o : Outcome) : Type 0 where
  pub ok : FormedMaybe o.ok
  pub err : FormedMaybe o.err

-- the enum is the well-formed one that stands for the state or nothing
pub record IsMaybe (t : M.Maybe) (r : Option AbsStack) : Type 0 where
  pub maybe : maybe_of r ≡ t
  pub formed : FormedMaybe r

-- the struct is the well-formed one that stands for the outcome
pub record IsOutcome (t : M.Outcome) (r : Outcome) : Type 0 where
  pub outcome : outcome_of r ≡ t
  pub formed : Formed r
