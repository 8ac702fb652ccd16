-- What the enum and the struct that the code makes stand for, from what their parts stand for. Assumes nothing.
use Rattle.std.specs.Prelude.{Option, Some, None, is_some}
use mathlib.Core.Path.{◌≡◌, refl, ap, ◌∙◌}
use mathlib.Core.Bool.{Bool}
use mathlib.Core.Option.{some}
use Rattle.stack.specs.declared.AbsStack.{AbsStack}
use Rattle.stack.specs.State as S
use Rattle.stack.specs.State.{max_len}
use Rattle.stack.specs.Promise.{state_of, WellFormed, Is}
use Rattle.machine.specs.Outcome as M
use Rattle.outcomes.specs.Promise.{maybe_of, IsMaybe, IsOutcome}

-- what is well formed stands for what its fields say
pub state-self : {s : AbsStack} → WellFormed max_len s → Is max_len (state_of s) s
state-self h = record { state = refl; well_formed = h }

-- a state is there where the machine has one
pub is_some-of : (m : Option AbsStack) → is_some m ≡ M.is_some (maybe_of m)
is_some-of None = refl
is_some-of (Some s) = refl

-- what stands for one thing stands for every equal one
pub maybe-by : {t u : M.Maybe} {r : Option AbsStack} → IsMaybe t r → t ≡ u → IsMaybe u r
maybe-by h e = record { maybe = h.maybe ∙ e; formed = h.formed }

-- a state that is there
pub is_state : {t : S.State} {s : AbsStack} → Is max_len t s → IsMaybe (some t) (Some s)
is_state h = record { maybe = ap some h.state; formed = h.well_formed }

-- a struct from its parts
pub made : {a b : M.Maybe} {e : Bool} {ok err : Option AbsStack} {empty : Bool} → IsMaybe a ok → IsMaybe b err → empty ≡ e
    → IsOutcome (record { ok = a; err = b; empty = e }) (record { ok = ok; err = err; empty = empty })
made ha hb he =
    record {
      outcome = λ i. record { ok = ha.maybe i; err = hb.maybe i; empty = he i };
      formed = record { ok = ha.formed; err = hb.formed };
    }
