-- What one copy makes of a run: the state it goes on from, the ends of a greedy run, the state read off a period. Assumes nothing.
use Rattle.std.specs.Prelude.{Option, Some}
use mathlib.Core.Path.{◌≡◌, refl, ap, ◌∙◌}
use mathlib.Core.Bool.{Bool, true, false, not, cond}
use mathlib.Core.Option.{none, some}
use Prim.Native.Nat.{ℕ, ◌+◌, ◌-◌, ◌%◌}
use native.Mathlib.Numerals.{add-one}
use Rattle.stack.specs.declared.AbsStack.{AbsStack}
use Rattle.stack.specs.State.{max_len}
use Rattle.stack.specs.State as S
use Rattle.stack.specs.Number.{state_at}
use Rattle.stack.specs.Promise.{state_of, Is}
use Rattle.machine.specs.Outcome.{joined, failed, of_opt}
use Rattle.machine.specs.Outcome as M
use Rattle.asking.specs.Runs.{next, ends}
use Rattle.outcomes.specs.declared.Outcome.{Outcome}
use Rattle.outcomes.specs.Promise.{maybe_of, outcome_of, IsMaybe, IsOutcome}
use Rattle.outcomes.proofs.Made.{is_state, maybe-by}
use Rattle.starts.specs.declared.Starts.{Starts}
use Rattle.starts.specs.Promise.{At}
use Rattle.turns.specs.Promise.{Ended}

-- an optional copy goes on from what an optional makes of it
pub next-optional : {required : Bool} (at : AbsStack) (o : Outcome) {p : Outcome} → required ≡ false → IsOutcome (of_opt (state_of at) (outcome_of o)) p
    → IsMaybe (next required (state_of at) (outcome_of o)) p.ok
next-optional at o e h = rw e (record { maybe = ap (λ (q : M.Outcome). q.ok) h.outcome; formed = h.formed.ok })

-- a copy that can fail ends a greedy run, with the state it began with too unless it is the first
ends-told : (first : Bool) (s e : S.State) (ok : M.Maybe) → joined ok (joined (failed (some e) s) (cond (not first) (some s) none)) ≡ ends first s (some e) ok
ends-told true s e ok = refl
ends-told false s e ok = refl

pub ends_more : (first : Bool) (at e : AbsStack) (err ok : Option AbsStack) {f v j r : Option AbsStack} → err ≡ Some e
    → IsMaybe (failed (maybe_of err) (state_of at)) f → IsMaybe (cond (not first) (some (state_of at)) none) v
    → IsMaybe (joined (maybe_of f) (maybe_of v)) j → IsMaybe (joined (maybe_of ok) (maybe_of j)) r
    → IsMaybe (ends first (state_of at) (maybe_of err) (maybe_of ok)) r
ends_more first at e err ok q hf hv hj hr =
    rw q
    (maybe-by hr
    (ap (joined (maybe_of ok)) (hj.maybe ∙ (λ i. joined ((hf.maybe ∙ ap (λ (m : Option AbsStack). failed (maybe_of m) (state_of at)) q) i) (hv.maybe i)))
    ∙ ends-told first (state_of at) (state_of e) (maybe_of ok)))

-- the state that stands there ends the run
pub period-ended : {run : Starts} {i left : ℕ} {e f : Bool} {x : ℕ} {end : AbsStack}
    → At run (i - left % (i + 1)) x → Is max_len (state_at x) end → Ended run i left e f (record { end = Some end; empty = e; fails = f })
period-ended {run} {i} {left} {e} {f} {x} {end} a h =
    record { end = λ other. record { end = maybe-by (is_state h) (ap some (rw (add-one i) at (a.state other))); empty = refl; fails = refl } }
