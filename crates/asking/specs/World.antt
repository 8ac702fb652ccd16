-- What a run of the stack pass remembers and reports, and how an ask answers. Assumes nothing.
use Rattle.std.specs.Prelude.{Bool, true, false, ◌&&◌, ◌||◌, cond, List, [], ◌∷◌, ◌++◌, ℕ, eqb}
use Rattle.std.proofs.Math.Option.{Option, none, some}
use Rattle.stack.specs.declared.Base.{Base}
use Rattle.stack.specs.declared.Base.TheVariants.{Empty, Blank, Any}
use Rattle.stack.specs.State.{State, same_bit, same_tops}
use Rattle.machine.specs.Kind.{Nodes}
use Rattle.machine.specs.Outcome.{Outcome}

-- what a run is given: the nodes, which reports are held back (by the body), the limit on tracked entries, and the places of the
-- outcome table and the walked table, and those left in the report table
pub record Setup : Type 0 where
  pub nodes : Nodes
  pub held : ℕ → Bool
  pub limit : ℕ
  pub outcome_places : ℕ
  pub walked_places : ℕ
  pub report_places : ℕ

-- a node and the state it is asked from
pub record Pair : Type 0 where
  pub node : ℕ
  pub state : State

-- a remembered pair; its answer is missing while it is open
pub record Entry : Type 0 where
  pub pair : Pair
  pub answer : Option Outcome

-- the outcome table and the walked table, newest first; the reports, as found: the repetition and its state
pub record World : Type 0 where
  pub memo : List Entry
  pub walked : List Pair
  pub reports : List Pair

abbrev pub nothing_yet : World
nothing_yet = record { memo = []; walked = []; reports = [] }

abbrev pub with_memo : List Entry → World → World
with_memo memo W = record { memo = memo; walked = W.walked; reports = W.reports }

abbrev pub with_walked : List Pair → World → World
with_walked walked W = record { memo = W.memo; walked = walked; reports = W.reports }

abbrev pub with_reports : List Pair → World → World
with_reports reports W = record { memo = W.memo; walked = W.walked; reports = reports }

-- a refusal, or an answer and what is remembered after it
pub data Answer (A : Type 0) : Type 0 where
  refused : ℕ → Answer A
  given : A → World → Answer A

abbrev pub and_then : {A B : Type 0} → Answer A → (A → World → Answer B) → Answer B
and_then (refused k) f = refused k
and_then (given a W) f = f a W

-- whether walking, the node, the state it is entered with
abbrev pub Ask : Type 0
Ask = Bool → ℕ → State → World → Answer Outcome

-- two states are the same
abbrev pub same_base : Base → Base → Bool
same_base Empty Empty = true
same_base Empty Blank = false
same_base Empty Any = false
same_base Blank Empty = false
same_base Blank Blank = true
same_base Blank Any = false
same_base Any Empty = false
same_base Any Blank = false
same_base Any Any = true

abbrev pub same_state : State → State → Bool
same_state a b = same_base a.base b.base && same_tops a.tops b.tops && same_bit a.intact b.intact

abbrev pub is_pair : ℕ → State → Pair → Bool
is_pair n s p = eqb n p.node && same_state s p.state

abbrev pub has_pair : ℕ → State → List Pair → Bool
has_pair n s [] = false
has_pair n s (p ∷ ps) = is_pair n s p || has_pair n s ps

abbrev pub has_node : ℕ → List Pair → Bool
has_node n [] = false
has_node n (p ∷ ps) = eqb n p.node || has_node n ps

-- what the outcome table has of a pair: nothing, an open pair, or its answer
pub data Look : Type 0 where
  absent opened : Look
  known : Outcome → Look

abbrev pub look_answer : Option Outcome → Look
look_answer none = opened
look_answer (some o) = known o

abbrev pub look : ℕ → State → List Entry → Look
look n s [] = absent
look n s (e ∷ es) = cond (is_pair n s e.pair) (look_answer e.answer) (look n s es)

-- "An outcome place is taken when a pair opens and kept to the end"
abbrev pub opens : ℕ → State → World → World
opens n s W = with_memo (record { pair = record { node = n; state = s }; answer = none } ∷ W.memo) W

-- the entry of a pair with its answer
abbrev pub answered : ℕ → State → Outcome → List Entry → List Entry
answered n s o [] = []
answered n s o (e ∷ es) = cond (is_pair n s e.pair) (record { pair = e.pair; answer = some o } ∷ es) (e ∷ answered n s o es)

abbrev pub closes : ℕ → State → Outcome → World → World
closes n s o W = with_memo (answered n s o W.memo) W

abbrev pub walks : ℕ → State → World → World
walks n s W = with_walked (record { node = n; state = s } ∷ W.walked) W

abbrev pub reports : ℕ → State → World → World
reports n s W = with_reports (W.reports ++ (record { node = n; state = s } ∷ [])) W
