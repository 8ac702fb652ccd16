-- What a report number tells of a grammar (document 01, "What comes back" and demand 3). Assumes nothing.
use Rattle.std.specs.Prelude.{◌≡◌, ℕ, ◌≤◌, ◌<◌, length}
use Rattle.image.specs.Grammar.{Grammar}
use Rattle.machine.specs.Demand.{NeverEnding}
use Rattle.asking.specs.Reading.{nodes_of}
use Rattle.demands.specs.Report.{node_in, state_number_in, state_in, reason_in}

pub record Told (g : Grammar) (r : ℕ) : Type 0 where
  -- it names a node of the grammar
  pub node : node_in r < length g.nodes
  -- "Reasons: 1 repetition cannot fail, 2 not progressing, 3 stack loop, 4 choice cannot be reached, 5 left recursion"
  pub reason-least : 1 ≤ reason_in r
  pub reason-most : reason_in r ≤ 5
  -- "State is 0 but for 3"
  pub stateless : (reason_in r ≡ 3 → ⊥) → state_number_in r ≡ 0
  -- demand 3: the node is a repetition that never ends, from every stack that the state covers
  pub loops : reason_in r ≡ 3 → NeverEnding (nodes_of g) (node_in r) (state_in r)
