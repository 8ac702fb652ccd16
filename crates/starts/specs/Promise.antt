-- The starts as a list of states, newest first, and what the promises say of it. Assumes nothing.
use Rattle.std.specs.Prelude.{◌≡◌, List, [], ◌∷◌, ℕ, zero, suc, ◌+◌, ◌-◌, ◌≤◌, ◌<◌, get_or, length, set, replicate, Option, Some, None}
use Rattle.std.proofs.Math.Option as Math
use Rattle.std.proofs.Math.Option.{none, some}
use Rattle.stack.specs.State.{State, max_len}
use Rattle.stack.specs.Number.{state_at, NumberOfState}
use Rattle.starts.specs.declared.Starts.{Starts}

-- the states of the first n numbers of an array, the newest first
unfoldable pub newest_first : List ℕ → ℕ → List State
newest_first states zero = []
newest_first states (suc n) = state_at (get_or states n 0) ∷ newest_first states n

abbrev pub starts_of : Starts → List State
starts_of run = newest_first run.states run.count

-- at most 65 starts, each the number of a state
pub record Numbered (run : Starts) : Type 0 where
  pub few : run.count ≤ 65
  pub long : length run.states ≡ 65
  pub each : (i : ℕ) → i < run.count → NumberOfState max_len (get_or run.states i 0)

-- no start yet, and every place 0
pub record Begun (r : Starts) : Type 0 where
  pub is : r ≡ record { states = replicate 65 0; count = 0 }
  pub none : r.count ≡ 0
  pub starts : starts_of r ≡ []
  pub numbered : Numbered r

-- one start more than run has
pub record More (run : Starts) (state : ℕ) (r : Starts) : Type 0 where
  pub is : r ≡ record { states = set run.states run.count state; count = run.count + 1 }
  pub count : r.count ≡ run.count + 1
  pub starts : starts_of r ≡ state_at state ∷ starts_of run
  pub numbered : Numbered r

-- a place or none, as the definitions say it
abbrev pub place_of : Option ℕ → Math.Option ℕ
place_of (Some i) = some i
place_of None = none

-- the number of the start so many places back
pub record At (run : Starts) (back r : ℕ) : Type 0 where
  pub is : r ≡ get_or run.states (run.count - 1 - back) 0
  pub state : (other : State) → state_at r ≡ get_or (starts_of run) back other
  pub number : NumberOfState max_len r
