-- The theorems of the stack pass: outcomes are sound, a loop that is found never ends, and demand 3 of every report. Assumes nothing.
use mathlib.Core.Path.{◌≡◌, subst, sym}
use mathlib.Core.Bool.{Bool, true, false}
use mathlib.Core.List.{List, []}
use Prim.Native.Nat.{ℕ}
use native.Mathlib.Omega.{arith}
use Rattle.stack.specs.State.{State, Within, max_len}
use Rattle.stack.specs.Covers.{Stack, Covers}
use Rattle.stack.specs.Number.{number_of, state_at}
use Rattle.stack.proofs.Numbers.{state_at-number_of}
use Rattle.image.specs.Grammar.{Grammar, Rule, expr_at}
use Rattle.machine.specs.Lists.{Mem}
use Rattle.machine.specs.Outcome.{Outcome}
use Rattle.machine.specs.Machine.{machine, node, Result, success, Frame, in_whole, Config, run, done, within, Steps, Goes}
use Rattle.machine.specs.Sound.{Sound, OutcomeWithin}
use Rattle.machine.specs.Demand.{Forever, Turn, NeverEnding}
use Rattle.machine.proofs.Parts.{unknown-sound}
use Rattle.machine.proofs.Limits.{unknown_outcome-within}
use Rattle.machine.proofs.Loops.{loops-forever}
use Rattle.machine.proofs.Demand.{loops-never-ending, never_ends, turn-ends-still, goes_on}
use Rattle.asking.specs.Reading.{nodes_of}
use Rattle.asking.specs.Modifies.{skips_modify}
use Rattle.asking.specs.World.{Setup, Pair, World, nothing_yet, Answer, given}
use Rattle.asking.specs.Runs.{loops, loops_forever}
use Rattle.asking.specs.Ask.{search_steps, visit}
use Rattle.asking.specs.StackPass.{setup_of, walk_rules, pass_unless, stack_pass}
use Rattle.asking.proofs.Kept.{Remembers, Law, Kept, Good, Keeps, each_at, each-any, visit-keeps, walk-keeps}
use Rattle.asking.proofs.SoundRuns.{sound_law, Found, loops_forever-sound}
use Rattle.asking.proofs.SoundSteps.{step-sound}
use Rattle.asking.proofs.Limits.{limit_law, step-within}
use Rattle.asking.proofs.Repetitions.{Repeats, node-repeats}

-- an answer that is given is good
given-good : {A : Type 0} (L : Law) (answer : Answer A) (Q : A → Type 0) (a : A) (W : World) → answer ≡ given a W → Good L answer Q → Kept L W × Q a
given-good L answer Q a W e h = subst (λ x. Good L x Q) e h

-- asking, nothing being said of reports
module _ (S : Setup) where
  sound-answers : (left : ℕ) → Keeps (sound_law S.nodes (λ n s. Unit {0})) (visit S left)
  sound-answers left =
      visit-keeps (sound_law S.nodes (λ n s. Unit {0})) S (unknown-sound S.nodes)
      (λ ask h walking n s W f k. step-sound S (λ n s. Unit {0}) (λ n part required s e q. tt) ask h walking n s W k) left

  -- every answer of `visit`, remembered or open or fresh, is sound, for any places and any limit, if those remembered before are;
  -- and then those remembered after are sound too
  pub visit-sound : (left : ℕ) (walking : Bool) (n : ℕ) (s : State) (W W₁ : World) (o : Outcome) → Remembers (Sound S.nodes) W.memo
      → visit S left walking n s W ≡ given o W₁ → Sound S.nodes n s o × Remembers (Sound S.nodes) W₁.memo
  unfolding Keeps
  visit-sound left walking n s W W₁ o m e =
      let g = given-good (sound_law S.nodes (λ n s. Unit {0})) (visit S left walking n s W) (Sound S.nodes n s) o W₁ e
      (sound-answers left walking n s W tt (m, each-any W.reports)) in
      (g.1, g.0.0)

  -- in particular when nothing is remembered yet
  pub visit-sound-at-first : (left : ℕ) (walking : Bool) (n : ℕ) (s : State) (W : World) (o : Outcome)
      → visit S left walking n s nothing_yet ≡ given o W → Sound S.nodes n s o
  visit-sound-at-first left walking n s W o e = (visit-sound left walking n s nothing_yet W o tt e).0

  -- `loops_forever` says that it loops: from every stack that the state covers, on every input, the part always succeeds and consumes
  -- nothing, forever
  pub loops_forever-never-ends : (left part count : ℕ) (s : State) (W W₁ : World) → Remembers (Sound S.nodes) W.memo
      → loops_forever (visit S left) part count s [] W ≡ given loops W₁
      → (size : ℕ) (list st : Stack) → Covers s list st → Forever (machine S.nodes size) part st
  loops_forever-never-ends left part count s W W₁ m e size list st c =
      let L : Law = sound_law S.nodes (λ n s. Unit {0}) in
      let g = given-good L (loops_forever (visit S left) part count s [] W) (Found S.nodes (λ n s. Unit {0}) (visit S left) (sound-answers left) part count s []) loops W₁ e
      (loops_forever-sound S.nodes (λ n s. Unit {0}) (visit S left) (sound-answers left) part count s [] W (m, each-any W.reports)) in
      loops-forever S.nodes size part count s g.1 list st c

  within-answers : (left : ℕ) → Keeps (limit_law S.limit) (visit S left)
  within-answers left =
      visit-keeps (limit_law S.limit) S (λ n s. unknown_outcome-within S.limit) (λ ask h walking n s W f k. step-within S ask h walking n s f W k) left

  -- from a state within the limit every answer's states are within it, if those remembered and reported before are; and then those
  -- remembered and reported after are too
  pub visit-within : (left : ℕ) (walking : Bool) (n : ℕ) (s : State) (W W₁ : World) (o : Outcome) → Within S.limit s → Kept (limit_law S.limit) W
      → visit S left walking n s W ≡ given o W₁ → OutcomeWithin S.limit o × Kept (limit_law S.limit) W₁
  unfolding Keeps
  visit-within left walking n s W W₁ o i k e =
      let g = given-good (limit_law S.limit) (visit S left walking n s W) (OutcomeWithin S.limit) o W₁ e (within-answers left walking n s W i k) in
      (g.1, g.0)

  -- the walk over rules
  walk-loops : (rules : List Rule) → Good (sound_law S.nodes (NeverEnding S.nodes)) (walk_rules S rules nothing_yet) (λ u. Unit {0})
  walk-loops rules =
      walk-keeps (sound_law S.nodes (NeverEnding S.nodes)) S (unknown-sound S.nodes)
      (λ ask h walking n s W f k. step-sound S (NeverEnding S.nodes)
      (λ n part required s e q. loops-never-ending S.nodes n part required search_steps s e q) ask h walking n s W k)
      tt rules nothing_yet (tt, tt)

  walk-within : (rules : List Rule) → Good (limit_law S.limit) (walk_rules S rules nothing_yet) (λ u. Unit {0})
  walk-within rules =
      walk-keeps (limit_law S.limit) S (λ n s. unknown_outcome-within S.limit) (λ ask h walking n s W f k. step-within S ask h walking n s f W k)
      (omega arith) rules nothing_yet (tt, tt)

-- what the walk keeps, the stack pass keeps
pass-good : (L : Law) (g : Grammar) (S : Setup) → Good L (walk_rules S g.rules nothing_yet) (λ u. Unit {0}) → (t : Bool)
    → Good L (pass_unless g S t) (λ u. Unit {0})
pass-good L g S h true = ((tt, tt), tt)
pass-good L g S h false = h

module _ (g : Grammar) (outcomes walked reports : ℕ) (W : World) (e : stack_pass g outcomes walked reports ≡ given tt W) where
  pass-loops : Kept (sound_law (nodes_of g) (NeverEnding (nodes_of g))) W
  unfolding stack_pass setup_of
  pass-loops =
      let S : Setup = setup_of g outcomes walked reports in
      let L : Law = sound_law (nodes_of g) (NeverEnding (nodes_of g)) in
      (given-good L (stack_pass g outcomes walked reports) (λ u. Unit {0}) tt W e (pass-good L g S (walk-loops S g.rules) (skips_modify g))).0

  pass-within : Kept (limit_law max_len) W
  unfolding stack_pass setup_of
  pass-within =
      let S : Setup = setup_of g outcomes walked reports in
      (given-good (limit_law max_len) (stack_pass g outcomes walked reports) (λ u. Unit {0}) tt W e
      (pass-good (limit_law max_len) g S (walk-within S g.rules) (skips_modify g))).0

  -- demand 3: each pair that is reported is an unbounded repetition and a state, and for every input, base list and stack that the
  -- state covers, at any position and after any number of steps, demand 3 holds
  pub demand-3 : (pair : Pair) → Mem pair W.reports → NeverEnding (nodes_of g) pair.node pair.state
  demand-3 pair m = each_at (NeverEnding (nodes_of g)) W.reports pass-loops.1 pair m

  -- it is a Rep, RepOnce or RepMin of the image
  pub report-repeats : (pair : Pair) (m : Mem pair W.reports) → Repeats (demand-3 pair m).part (expr_at g pair.node)
  report-repeats pair m = node-repeats g pair.node (demand-3 pair m).part (demand-3 pair m).required (demand-3 pair m).kind

  -- in plain words: it never comes to success or failure
  pub report-never-ends : (pair : Pair) → Mem pair W.reports → (size : ℕ) (list st : Stack) → Covers pair.state list st
      → (p k : ℕ) (r : Result) (q : ℕ) (z : Stack) → Steps (machine (nodes_of g) size) k (run (node pair.node) p st) (done r q z) → ⊥
  report-never-ends pair m size list st c =
      never_ends (machine (nodes_of g) size) pair.node (demand-3 pair m).part st ((demand-3 pair m).demand size list st c)

  -- each turn that ends has succeeded and consumed nothing
  pub report-turn-ends-still : (pair : Pair) (m : Mem pair W.reports) (size : ℕ) (list st : Stack) → Covers pair.state list st
      → (p k : ℕ) (frame : Frame) (q : ℕ) (z : Stack) → Turn (demand-3 pair m).part q z frame → (r : Result) (q₁ : ℕ) (z₁ : Stack)
      → Steps (machine (nodes_of g) size) k (run (node pair.node) p st) (within (in_whole p st) (within frame (done r q₁ z₁)))
      → (r ≡ success) × (q₁ ≡ q)
  report-turn-ends-still pair m size list st c =
      turn-ends-still (machine (nodes_of g) size) pair.node (demand-3 pair m).part st ((demand-3 pair m).demand size list st c)

  -- after any number of steps it can take one more step, or stands at PEEK or POP on an empty stack
  pub report-goes-on : (pair : Pair) → Mem pair W.reports → (size : ℕ) (list st : Stack) → Covers pair.state list st
      → (p k : ℕ) (c : Config) → Steps (machine (nodes_of g) size) k (run (node pair.node) p st) c → Goes (machine (nodes_of g) size) c
  report-goes-on pair m size list st c =
      goes_on (machine (nodes_of g) size) pair.node (demand-3 pair m).part st ((demand-3 pair m).demand size list st c)

  -- the state of a report can be read from its number
  pub report-within : (pair : Pair) → Mem pair W.reports → Within max_len pair.state
  report-within pair m = each_at (λ n s. Within max_len s) W.reports pass-within.1 pair m

  pub report-state : (pair : Pair) → Mem pair W.reports → state_at (number_of pair.state) ≡ pair.state
  report-state pair m = state_at-number_of pair.state (report-within pair m)

  pub demand-3-by-number : (pair : Pair) → Mem pair W.reports → NeverEnding (nodes_of g) pair.node (state_at (number_of pair.state))
  demand-3-by-number pair m = subst (NeverEnding (nodes_of g) pair.node) (sym (report-state pair m)) (demand-3 pair m)
