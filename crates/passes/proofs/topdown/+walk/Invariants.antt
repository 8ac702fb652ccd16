-- `passes::topdown::walk` calls itself and loops: both go down by the node's number. What is placed from the node reached on comes to what
-- is placed from the first node on. Assumes nothing.
use mathlib.Core.List.{List}
use Prim.Native.Nat.{ℕ, ◌≤◌}
use lib.ListN.{length}
use Rattle.std.specs.Prelude.{Result}
use Rattle.image.specs.declared.refusal.Refusal.{Refusal}
use Rattle.image.specs.Grammar.{grammar}
use Rattle.image.specs.Promise.{IsNode}
use Rattle.passes.specs.Report.{flat}
use Rattle.passes.specs.TopDown.{top_down}
use Rattle.passes.specs.Promise.{held, place_all, Leaves}
use Rattle.passes.specs.Steps.{Finds}
use Rattle.passes.proofs.topdown.+walk.Given as goal

abbrev pub decreases-walk : goal.decreases-walk
decreases-walk g l = l.n

abbrev pub invariant-loop-count : goal.invariant-loop-count
invariant-loop-count g l =
    IsNode l.image.bytes.now l.n × (l.n ≤ l.initial.n)
    × ((due : ℕ → List ℕ) → Finds (goal.F-post g l.find) (length (grammar l.image.bytes.now).nodes) due →
    (r : Result ℕ Refusal) (t : List ℕ) →
    Leaves r t (place_all (held l.table l.count) (flat due (top_down (grammar l.image.bytes.now) l.n))) →
    Leaves r t (place_all (held l.initial.table l.initial.count) (flat due (top_down (grammar l.image.bytes.now) l.initial.n))))

abbrev pub decreases-loop-count : goal.decreases-loop-count
decreases-loop-count g l = l.n
