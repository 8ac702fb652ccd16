-- What one copy makes of a run, of a search for a loop and of a report: the definitions of `asking`, over the structs. Assumes nothing.
use Rattle.std.specs.Prelude.{◌≡◌, Bool, true, false, ◌&&◌, not, List, ◌∷◌, ℕ, suc, ◌/◌, eqb, ltb, length, get_or, set, Option, Some, None, Result, Ok, Err}
use Rattle.std.proofs.Math.Option.{some}
use Rattle.stack.specs.declared.AbsStack.{AbsStack}
use Rattle.stack.specs.State.{State}
use Rattle.stack.specs.Number.{number_of}
use Rattle.stack.specs.Promise.{state_of}
use Rattle.image.specs.Grammar.{grammar}
use Rattle.image.specs.declared.refusal.Refusal.{Refusal}
use Rattle.image.specs.declared.refusal.Refusal.TheVariants.{ReportsFull}
use Rattle.asking.specs.Reading.{held_back}
use Rattle.asking.specs.Runs.{ran, read_off, any_same_top}
use Rattle.asking.specs.Runs as R
use Rattle.tables.specs.Report.{report}
use Rattle.tables.specs.Words.{Stored}
use Rattle.outcomes.specs.Promise.{IsMaybe}
use Rattle.starts.specs.declared.Starts.{Starts}
use Rattle.starts.specs.Promise.{starts_of, Begun, More}
use Rattle.turns.specs.declared.Ran.{Ran}

-- a run's end in code is the definition's
pub record IsRan (a : R.Ran) (r : Ran) : Type 0 where
  pub end : IsMaybe a.end r.end
  pub empty : r.empty ≡ a.empty
  pub fails : r.fails ≡ a.fails

-- a start that came again: the run ends with the state read off the period
pub record Ended (run : Starts) (i left : ℕ) (e f : Bool) (r : Ran) : Type 0 where
  pub end : (other : State) → IsRan (ran (some (read_off (starts_of run) i left other)) e f) r

-- the turn may have changed the list below the cut: what is past is cleared
abbrev pub Cleared : Option Starts → Type 0
Cleared None = ⊥
Cleared (Some past) = Begun past

-- no start has come round: the turn's start is past
abbrev pub Further : Starts → AbsStack → Option Starts → Type 0
Further seen cur None = ⊥
Further seen cur (Some past) = More seen (number_of (state_of cur)) past

-- by whether the turn left the list below the cut intact, and whether an earlier start has the same tracked entries
abbrev pub HuntedIf : Starts → AbsStack → Option Starts → Bool → Bool → Type 0
HuntedIf seen cur r false again = Cleared r
HuntedIf seen cur r true true = r ≡ None
HuntedIf seen cur r true false = Further seen cur r

pub record HuntedOn (seen : Starts) (cur out : AbsStack) (r : Option Starts) : Type 0 where
  pub says : HuntedIf seen cur r out.intact (any_same_top (state_of out) (state_of cur ∷ starts_of seen))

-- nothing is written
pub record Unwritten (table marks table' marks' : List ℕ) : Type 0 where
  pub words : table' ≡ table
  pub marked : marks' ≡ marks

-- the report is written at the next place, and its node marked
pub record Written (count n : ℕ) (s : State) (table marks table' marks' : List ℕ) : Type 0 where
  pub words : Stored table count (report n (number_of s) 3) table'
  pub marked : marks' ≡ set marks n 1

-- by whether a report is due, and whether a place is free for it
abbrev pub ReportedIf : ℕ → ℕ → State → List ℕ → List ℕ → Result ℕ Refusal → List ℕ → List ℕ → Bool → Bool → Type 0
ReportedIf count n s table marks r table' marks' false room = (r ≡ Ok count) × Unwritten table marks table' marks'
ReportedIf count n s table marks r table' marks' true false = (r ≡ Err ReportsFull) × Unwritten table marks table' marks'
ReportedIf count n s table marks r table' marks' true true = (r ≡ Ok (suc count)) × Written count n s table marks table' marks'

-- "A report is held back if the body has bit 1 or 2; each node is reported once"; "10: a report is due and none is free"
pub record Reported (image table marks : List ℕ) (count n part : ℕ) (s : AbsStack) (r : Result ℕ Refusal) (table' marks' : List ℕ) : Type 0 where
  pub says : ReportedIf count n (state_of s) table marks r table' marks' (not (held_back (grammar image) part) && not (eqb (get_or marks n 0) 1)) (ltb count (length table / 8))
