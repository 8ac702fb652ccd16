-- `passes::topdown::walk_rules` meets its contract. The invariant: placing what the rules from i on find comes to placing what all find. Assumes nothing.
use mathlib.Core.Path.{◌≡◌}
use mathlib.Core.List.{List}
use Prim.Native.Nat.{ℕ}
use lib.ListN.{length}
use Rattle.image.specs.Grammar.{grammar}
use Rattle.passes.specs.Report.{flat}
use Rattle.passes.specs.TopDown.{nodes_down}
use Rattle.passes.specs.Promise.{held, place_all}
use Rattle.passes.specs.Steps.{Finds}
use Rattle.passes.proofs.Downs.{finds_from}
use Rattle.passes.proofs.topdown.walk_rules.Given as goal

abbrev pub invariant-loop-i : goal.invariant-loop-i
invariant-loop-i g l =
    (due : ℕ → List ℕ) → Finds (goal.F-post g l.find) (length (grammar l.image.bytes.now).nodes) due →
    place_all (held l.table l.count) (finds_from (grammar l.image.bytes.now) due l.i) ≡ place_all (held l.initial.table l.initial.count) (flat due (nodes_down (grammar l.image.bytes.now)))
