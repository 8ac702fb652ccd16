-- How the lent tables stand for a world of the definition: places for pairs, words for reports, marks for reported nodes.
-- Assumes nothing.
use Rattle.std.specs.Prelude.{◌≡◌, List, [], ◌∷◌, ◌++◌, ℕ, ◌+◌, ◌<◌, ◌≤◌, ◌/◌, length, get_or}
use Rattle.std.proofs.Math.Option.{Option, none, some}
use Rattle.stack.specs.State.{State, Within, max_len}
use Rattle.stack.specs.Number.{number_of, bit}
use Rattle.machine.specs.Outcome.{Outcome}
use Rattle.asking.specs.World.{Pair, Entry, World, has_node}
use Rattle.asking.specs.StackPass.{loop_reports}
use Rattle.tables.specs.Map.{Map, Memo}
use Rattle.tables.specs.Pair.{pair_key}
use Rattle.tables.specs.Words.{laid}
use Rattle.tables.proofs.Laid.{Fit}
use Rattle.outcomes.specs.Word.{WithinOutcome, outcome_number}

-- the key of a node and a state: node × 32,768 + the state's number + 1
abbrev pub key_of : ℕ → State → ℕ
key_of n s = pair_key 32768 n (number_of s)

-- an open pair has the value 0, an answered one its outcome's number
abbrev pub answer_number : Option Outcome → ℕ
answer_number none = 0
answer_number (some o) = outcome_number o

-- the outcome table's map
unfoldable pub memo_map : List Entry → Map
memo_map [] = []
memo_map (e ∷ es) = (key_of e.pair.node e.pair.state, answer_number e.answer) ∷ memo_map es

-- the walked table's map: a set, its values are 0
unfoldable pub walked_map : List Pair → Map
walked_map [] = []
walked_map (p ∷ ps) = (key_of p.node p.state, 0) ∷ walked_map ps

-- nodes and states that a key can hold, and answers that a value can
pub record FormedPair (p : Pair) : Type 0 where
  pub node : p.node < 2048
  pub within : Within max_len p.state

abbrev pub FormedAnswer : Option Outcome → Type 0
FormedAnswer none = Unit {0}
FormedAnswer (some o) = WithinOutcome max_len o

abbrev pub FormedPairs : List Pair → Type 0
FormedPairs [] = Unit {0}
FormedPairs (p ∷ ps) = FormedPair p × FormedPairs ps

abbrev pub FormedEntries : List Entry → Type 0
FormedEntries [] = Unit {0}
FormedEntries (e ∷ es) = FormedPair e.pair × FormedAnswer e.answer × FormedEntries es

-- the sizes of the lent tables in bytes, and the reports that stood in the report table before the stack pass
pub record Lent : Type 0 where
  pub memo : ℕ
  pub walked : ℕ
  pub reports : ℕ
  pub before : List ℕ

-- the bytes of the three lent tables, and a mark for each node
pub record Tables : Type 0 where
  pub memo : List ℕ
  pub walked : List ℕ
  pub reports : List ℕ
  pub marks : List ℕ

-- the tables, the marks and the count stand for a world
pub record Stands (L : Lent) (T : Tables) (count : ℕ) (W : World) : Type 0 where
  pub remembered : Memo 4 8 L.memo T.memo (memo_map W.memo)
  pub visited : Memo 4 4 L.walked T.walked (walked_map W.walked)
  pub words : T.reports ≡ laid L.reports (L.before ++ loop_reports W.reports)
  pub fit : Fit (L.before ++ loop_reports W.reports)
  pub counted : count ≡ length L.before + length W.reports
  pub fitted : count ≤ L.reports / 8
  pub long : length T.marks ≡ 2048
  pub marked : (n : ℕ) → n < 2048 → get_or T.marks n 0 ≡ bit (has_node n W.reports)
  pub entries : FormedEntries W.memo
  pub pairs : FormedPairs W.walked
