-- Runs of turns (document 01, "Outcomes"): `steps`, `greedy` and `loops_forever`, over any way of asking about the body.
-- Assumes nothing.
use Rattle.std.specs.Prelude.{Bool, true, false, ◌&&◌, ◌||◌, cond, List, [], ◌∷◌, ℕ, zero, suc, ◌-◌, ◌%◌, get_or}
use Rattle.std.proofs.Math.Option.{Option, none, some}
use Rattle.stack.specs.State.{State, same_top, fresh}
use Rattle.machine.specs.Outcome.{Maybe, Outcome, is_some, joined, failed, still, exact, of_opt}
use Rattle.asking.specs.World.{World, Answer, refused, given, and_then, Ask, same_state}

-- where a run ends, whether all its copies consumed nothing, and whether a required copy can fail
pub record Ran : Type 0 where
  pub end : Maybe
  pub empty : Bool
  pub fails : Bool

abbrev pub ran : Maybe → Bool → Bool → Ran
ran end empty fails = record { end = end; empty = empty; fails = fails }

-- how many places back in the trace a state stands, 0 for the newest
abbrev pub one_more : Option ℕ → Option ℕ
one_more none = none
one_more (some i) = some (suc i)

abbrev pub place : State → List State → Option ℕ
place s [] = none
place s (t ∷ trace) = cond (same_state s t) (some 0) (one_more (place s trace))

-- "Bounded runs follow their period: the state after all copies is read off it." The state i places back has come again, so the
-- period is the newest i + 1 starts, the oldest of them next, and `left` copies are still to run
abbrev pub read_off : List State → ℕ → ℕ → State → State
read_off trace i left s = get_or trace (i - left % suc i) s

-- a required copy goes on from its success, an optional one from its failure too
abbrev pub next : Bool → State → Outcome → Maybe
next true s o = o.ok
next false s o = (of_opt s o).ok

-- the states a greedy run can end with: the failed copy's, and, but for the first copy, the one it began with
abbrev pub ends : Bool → State → Maybe → Maybe → Maybe
ends first s none ok = ok
ends first s (some e) ok = joined ok (joined (failed (some e) s) (cond first none (some s)))

-- an earlier start has the same tracked entries
abbrev pub any_same_top : State → List State → Bool
any_same_top out [] = false
any_same_top out (s ∷ seen) = same_top out s || any_same_top out seen

-- what `loops_forever` comes to: a start comes round again, a turn is not exact, or all its steps are used
pub data Search : Type 0 where
  loops breaks spent : Search

module _ (ask : Ask) (walking : Bool) (part : ℕ) where
  abbrev pub steps_go : (List State → State → Bool → Bool → World → Answer Ran) → List State → State → Outcome → Maybe → Bool → Bool → World → Answer Ran
  steps_go rest trace s o none empty fails W = given (ran none (empty && still o) (fails || is_some o.err)) W
  steps_go rest trace s o (some t) empty fails W = rest (s ∷ trace) t (empty && still o) (fails || is_some o.err) W

  abbrev pub steps_at : Bool → (List State → State → Bool → Bool → World → Answer Ran) → List State → State → ℕ → Bool → Bool → World → Option ℕ → Answer Ran
  steps_at required rest trace s left empty fails W (some i) = given (ran (some (read_off trace i left s)) empty fails) W
  steps_at required rest trace s left empty fails W none = and_then (ask walking part s W) (λ o W₁. steps_go rest trace s o (next required s o) empty fails W₁)

  -- "11: a 65th distinct start in one bounded run or one greedy run"
  abbrev pub steps_full : List State → State → ℕ → Bool → Bool → World → Option ℕ → Answer Ran
  steps_full trace s left empty fails W (some i) = given (ran (some (read_off trace i left s)) empty fails) W
  steps_full trace s left empty fails W none = refused 11

  -- `steps`: copies in sequence from s, as many as are left; the starts so far are the trace, newest first, and there is room for
  -- as many more as `room` says
  unfoldable pub steps : Bool → ℕ → ℕ → List State → State → Bool → Bool → World → Answer Ran
  steps required room zero trace s empty fails W = given (ran (some s) empty fails) W
  steps required zero (suc left) trace s empty fails W = steps_full trace s (suc left) empty fails W (place s trace)
  steps required (suc room) (suc left) trace s empty fails W =
      steps_at required (λ tr t e f W₁. steps required room left tr t e f W₁) trace s (suc left) empty fails W (place s trace)

  abbrev pub greedy_go : (List State → State → Bool → Maybe → World → Answer Ran) → List State → State → Bool → Outcome → Maybe → Maybe → World → Answer Ran
  greedy_go rest seen s empty o none ok W = given (ran ok (empty && still o) false) W
  greedy_go rest seen s empty o (some t) ok W = rest (s ∷ seen) t (empty && still o) ok W

  abbrev pub greedy_at : (List State → State → Bool → Maybe → World → Answer Ran) → List State → State → Bool → Bool → Maybe → World → Option ℕ → Answer Ran
  greedy_at rest seen s first empty ok W (some i) = given (ran ok empty false) W
  greedy_at rest seen s first empty ok W none =
      and_then (ask walking part s W) (λ o W₁. greedy_go rest seen s empty o o.ok (ends first s o.err ok) W₁)

  abbrev pub greedy_full : Bool → Maybe → World → Option ℕ → Answer Ran
  greedy_full empty ok W (some i) = given (ran ok empty false) W
  greedy_full empty ok W none = refused 11

  -- `greedy`: copies from s until one fails, which ends the run with success
  unfoldable pub greedy : ℕ → List State → State → Bool → Bool → Maybe → World → Answer Ran
  greedy zero seen s first empty ok W = greedy_full empty ok W (place s seen)
  greedy (suc room) seen s first empty ok W =
      greedy_at (λ sn t e v W₁. greedy room sn t false e v W₁) seen s first empty ok W (place s seen)

module _ (ask : Ask) (part : ℕ) where
  abbrev pub loops_seen : (State → List State → World → Answer Search) → State → List State → State → World → Bool → Answer Search
  loops_seen rest cur past out W true = given loops W
  loops_seen rest cur past out W false = rest out (cur ∷ past) W

  -- "`seen` is cleared when the turn may have changed the list below the cut, its class changed or not"
  abbrev pub loops_out : (State → List State → World → Answer Search) → State → List State → State → World → Bool → Answer Search
  loops_out rest cur past out W true = loops_seen rest cur past out W (any_same_top out (cur ∷ past))
  loops_out rest cur past out W false = rest out [] W

  abbrev pub loops_go : (State → List State → World → Answer Search) → State → List State → World → Maybe → Answer Search
  loops_go rest cur past W none = given breaks W
  loops_go rest cur past W (some out) = loops_out rest cur past out W out.intact

  -- `loops_forever`: "64 steps at most"; `seen` is cur and what is past. Its asks are outcomes: walking is off
  unfoldable pub loops_forever : ℕ → State → List State → World → Answer Search
  loops_forever zero cur past W = given spent W
  loops_forever (suc left) cur past W =
      and_then (ask false part (fresh cur) W) (λ o W₁. loops_go (λ c p W₂. loops_forever left c p W₂) cur past W₁ (exact o))
