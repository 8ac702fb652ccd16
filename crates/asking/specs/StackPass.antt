-- The stack pass over all rules: `validate_stack_repetition`. Assumes nothing.
use Rattle.std.specs.Prelude.{Bool, true, false, List, [], ◌∷◌, ℕ}
use Rattle.stack.specs.State.{entry, max_len}
use Rattle.stack.specs.Number.{number_of}
use Rattle.image.specs.Grammar.{Grammar, Rule}
use Rattle.tables.specs.Report.{report}
use Rattle.asking.specs.Reading.{nodes_of, held_back}
use Rattle.asking.specs.Modifies.{skips_modify}
use Rattle.asking.specs.World.{Setup, Pair, World, nothing_yet, Answer, given, and_then}
use Rattle.asking.specs.Ask.{visit}

-- reason 3 names the repetition and its state
unfoldable pub loop_reports : List Pair → List ℕ
loop_reports [] = []
loop_reports (p ∷ pairs) = report p.node (number_of p.state) 3 ∷ loop_reports pairs

-- nodes that may be open at once
abbrev pub open_nodes : ℕ
open_nodes = 256

-- what a run over the grammar is given, with so many places
unfoldable pub setup_of : Grammar → ℕ → ℕ → ℕ → Setup
setup_of g outcomes walked reports =
    record { nodes = nodes_of g; held = held_back g; limit = max_len; outcome_places = outcomes; walked_places = walked; report_places = reports }

-- "Every rule is walked from Any, 0, 0, intact"
unfoldable pub walk_rules : Setup → List Rule → World → Answer (Unit {0})
walk_rules S [] W = given tt W
walk_rules S (r ∷ rules) W = and_then (visit S open_nodes true r.root entry W) (λ o W₁. walk_rules S rules W₁)

-- "If either may change the stack, the stack pass isn't run: no reason 3 and no refusal from it"
abbrev pub pass_unless : Grammar → Setup → Bool → Answer (Unit {0})
pass_unless g S true = given tt nothing_yet
pass_unless g S false = walk_rules S g.rules nothing_yet

unfoldable pub stack_pass : Grammar → ℕ → ℕ → ℕ → Answer (Unit {0})
stack_pass g outcomes walked reports = pass_unless g (setup_of g outcomes walked reports) (skips_modify g)
