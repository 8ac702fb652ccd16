-- Demand 3 over the whole check: for every image and all places, of every report number of reason 3. Assumes nothing.
use mathlib.Core.Path.{◌≡◌, subst}
use mathlib.Core.List.{List}
use Prim.Native.Nat.{ℕ}
use Rattle.stack.specs.Covers.{Stack, Covers}
use Rattle.image.specs.Grammar.{grammar, expr_at}
use Rattle.machine.specs.Lists.{Mem}
use Rattle.machine.specs.Machine.{machine, node, Result, success, Frame, in_whole, Config, run, within, Steps, Goes}
use Rattle.machine.specs.Machine as M
use Rattle.machine.specs.Demand.{Turn, NeverEnding}
use Rattle.machine.proofs.Demand.{never_ends, turn-ends-still, goes_on}
use Rattle.asking.specs.Reading.{nodes_of}
use Rattle.asking.proofs.Repetitions.{Repeats, node-repeats}
use Rattle.passes.specs.Report.{done}
use Rattle.thatchnip.specs.Check.{check}
use Rattle.demands.specs.Report.{node_in, state_in, reason_in}
use Rattle.demands.specs.Told.{Told}
use Rattle.demands.proofs.Lists.{every-at, Gives}
use Rattle.demands.proofs.Passes.{check-told}

-- every report of a check that is done, whatever its reason
pub report-told : (image : List ℕ) (outcomes walked reports : ℕ) (found : List ℕ) → check image outcomes walked reports ≡ done found
    → (r : ℕ) → Mem r found → Told (grammar image) r
report-told image outcomes walked reports found e =
    every-at (Told (grammar image)) found (subst (Gives (Told (grammar image))) e (check-told image outcomes walked reports))

-- demand 3
pub demand-3 : (image : List ℕ) (outcomes walked reports : ℕ) (found : List ℕ) → check image outcomes walked reports ≡ done found
    → (r : ℕ) → Mem r found → reason_in r ≡ 3 → NeverEnding (nodes_of (grammar image)) (node_in r) (state_in r)
demand-3 image outcomes walked reports found e r m three = (report-told image outcomes walked reports found e r m).loops three

-- in plain words, of a report r of reason 3
module _ (image : List ℕ) (outcomes walked reports : ℕ) (found : List ℕ) (e : check image outcomes walked reports ≡ done found)
    (r : ℕ) (m : Mem r found) (three : reason_in r ≡ 3) where
  -- what it repeats
  abbrev pub report-part : ℕ
  report-part = (demand-3 image outcomes walked reports found e r m three).part

  -- its node is a Rep, RepOnce or RepMin of the image
  pub report-repeats : Repeats report-part (expr_at (grammar image) (node_in r))
  report-repeats =
      let d = demand-3 image outcomes walked reports found e r m three in
      node-repeats (grammar image) (node_in r) d.part d.required d.kind

  -- for any input length, any base list and any stack that its state covers, from any position, after any number of steps
  module _ (size : ℕ) (list st : Stack) (covers : Covers (state_in r) list st) where
    -- it has not come to success or failure
    pub report-never-ends : (p k : ℕ) (end : Result) (q : ℕ) (z : Stack)
        → Steps (machine (nodes_of (grammar image)) size) k (run (node (node_in r)) p st) (M.done end q z) → ⊥
    report-never-ends =
        never_ends (machine (nodes_of (grammar image)) size) (node_in r) report-part st
        ((demand-3 image outcomes walked reports found e r m three).demand size list st covers)

    -- each turn that has ended has succeeded and consumed nothing
    pub report-turn-ends-still : (p k : ℕ) (frame : Frame) (q : ℕ) (z : Stack) → Turn report-part q z frame → (end : Result) (q₁ : ℕ) (z₁ : Stack)
        → Steps (machine (nodes_of (grammar image)) size) k (run (node (node_in r)) p st) (within (in_whole p st) (within frame (M.done end q₁ z₁)))
        → (end ≡ success) × (q₁ ≡ q)
    report-turn-ends-still =
        turn-ends-still (machine (nodes_of (grammar image)) size) (node_in r) report-part st
        ((demand-3 image outcomes walked reports found e r m three).demand size list st covers)

    -- it can take one more step, or stands at PEEK or POP on an empty stack
    pub report-goes-on : (p k : ℕ) (c : Config) → Steps (machine (nodes_of (grammar image)) size) k (run (node (node_in r)) p st) c
        → Goes (machine (nodes_of (grammar image)) size) c
    report-goes-on =
        goes_on (machine (nodes_of (grammar image)) size) (node_in r) report-part st
        ((demand-3 image outcomes walked reports found e r m three).demand size list st covers)
