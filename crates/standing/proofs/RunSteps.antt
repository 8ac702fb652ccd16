-- `steps`, `greedy` and `loops_forever`, copy by copy: what the definition comes to. Assumes nothing.
use mathlib.Core.Path.{◌≡◌, refl}
use mathlib.Core.Bool.{Bool, false}
use mathlib.Core.List.{List}
use mathlib.Core.Option.{none, some}
use Prim.Native.Nat.{ℕ, zero, suc}
use Rattle.stack.specs.State.{State, fresh}
use Rattle.machine.specs.Outcome.{Maybe, exact}
use Rattle.asking.specs.World.{World, refused, given, and_then, Ask}
use Rattle.asking.specs.Runs.{ran, place, read_off, next, ends, steps_go, steps, greedy_go, greedy, spent, loops_go, loops_forever}

module _ (ask : Ask) (walking : Bool) (part : ℕ) where
  -- a bounded run: no copy is left; a start comes again; the 65th start; a new start
  pub steps-none : (required : Bool) (room : ℕ) (trace : List State) (s : State) (e f : Bool) (W : World)
      → steps ask walking part required room 0 trace s e f W ≡ given (ran (some s) e f) W
  unfolding steps
  steps-none required zero trace s e f W = refl
  steps-none required (suc room) trace s e f W = refl

  pub steps_back : (required : Bool) (room left i : ℕ) (trace : List State) (s : State) (e f : Bool) (W : World) → place s trace ≡ some i
      → steps ask walking part required room (suc left) trace s e f W ≡ given (ran (some (read_off trace i (suc left) s)) e f) W
  unfolding steps
  steps_back required zero left i trace s e f W q = rw q
  steps_back required (suc room) left i trace s e f W q = rw q

  pub steps-full : (required : Bool) (left : ℕ) (trace : List State) (s : State) (e f : Bool) (W : World) → place s trace ≡ none
      → steps ask walking part required 0 (suc left) trace s e f W ≡ refused 11
  unfolding steps
  steps-full required left trace s e f W q = rw q

  pub steps-new : (required : Bool) (room left : ℕ) (trace : List State) (s : State) (e f : Bool) (W : World) → place s trace ≡ none
      → steps ask walking part required (suc room) (suc left) trace s e f W
      ≡ and_then (ask walking part s W)
      (λ o W₁. steps_go ask walking part (λ tr t e₁ f₁ W₂. steps ask walking part required room left tr t e₁ f₁ W₂) trace s o (next required s o) e f W₁)
  unfolding steps
  steps-new required room left trace s e f W q = rw q

  -- a greedy run: a start comes again; the 65th start; a new start
  pub greedy-back : (room i : ℕ) (seen : List State) (s : State) (first e : Bool) (ok : Maybe) (W : World) → place s seen ≡ some i
      → greedy ask walking part room seen s first e ok W ≡ given (ran ok e false) W
  unfolding greedy
  greedy-back zero i seen s first e ok W q = rw q
  greedy-back (suc room) i seen s first e ok W q = rw q

  pub greedy-full : (seen : List State) (s : State) (first e : Bool) (ok : Maybe) (W : World) → place s seen ≡ none
      → greedy ask walking part 0 seen s first e ok W ≡ refused 11
  unfolding greedy
  greedy-full seen s first e ok W q = rw q

  pub greedy-new : (room : ℕ) (seen : List State) (s : State) (first e : Bool) (ok : Maybe) (W : World) → place s seen ≡ none
      → greedy ask walking part (suc room) seen s first e ok W
      ≡ and_then (ask walking part s W)
      (λ o W₁. greedy_go ask walking part (λ sn t e₁ v W₂. greedy ask walking part room sn t false e₁ v W₂) seen s e o o.ok (ends first s o.err ok) W₁)
  unfolding greedy
  greedy-new room seen s first e ok W q = rw q

-- the search for a loop: its steps are used; one more step
module _ (ask : Ask) (part : ℕ) where
  pub loops-spent : (cur : State) (past : List State) (W : World) → loops_forever ask part 0 cur past W ≡ given spent W
  unfolding loops_forever
  loops-spent cur past W = refl

  pub loops-step : (left : ℕ) (cur : State) (past : List State) (W : World)
      → loops_forever ask part (suc left) cur past W
      ≡ and_then (ask false part (fresh cur) W) (λ o W₁. loops_go ask part (λ c p W₂. loops_forever ask part left c p W₂) cur past W₁ (exact o))
  unfolding loops_forever
  loops-step left cur past W = refl
