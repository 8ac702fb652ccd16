-- The stack pass refuses with 1 to 13, or reports at most as many loops as the grammar has nodes. Assumes nothing.
use mathlib.Core.Path.{◌≡◌, refl, subst}
use mathlib.Core.Bool.{Bool, true, false, ◌&&◌, not}
use mathlib.Core.List.{List, [], ◌∷◌}
use mathlib.Core.Logic.{inl, inr}
use Prim.Native.Nat.{ℕ, zero, suc, ◌<◌, ◌≤◌}
use native.Mathlib.Omega.{arith}
use lib.Dec.{ltb}
use lib.ListN.{length}
use Rattle.stack.specs.State.{State, entry}
use Rattle.image.specs.Lists.{times, AllBelow}
use Rattle.image.specs.Grammar.{Grammar, Rule}
use Rattle.image.proofs.Weights.{length-once}
use Rattle.machine.specs.Lists.{Mem}
use Rattle.asking.specs.Modifies.{skips_modify}
use Rattle.asking.specs.World.{Setup, Pair, World, nothing_yet, refused, given, Ask, has_pair, Look, absent, opened, known, look, opens, walks}
use Rattle.asking.specs.Ask.{step, outcome_new, outcome_at, visit_new, visit_at, visit}
use Rattle.asking.specs.StackPass.{open_nodes, setup_of, walk_rules, pass_unless, stack_pass, loop_reports}
use Rattle.asking.proofs.Repetitions.{repetition-node}
use Rattle.asking.proofs.ReportedOnce.{nodes_in, Once, Fair, Asks, then-fair, step-fair}
use Rattle.asking.proofs.Theorems.{demand-3, report-repeats}

module _ (S : Setup) where
  outcome-fair : (ask : Ask) → Asks ask → (n : ℕ) (s : State) (W : World) → Once W.reports → (found : Look) → Fair (outcome_at S ask n s W found)
  outcome-fair ask h n s W k (known o) = k
  outcome-fair ask h n s W k opened = k
  outcome-fair ask h n s W k absent = new (ltb (length W.memo) S.outcome_places)
    where
      new : (t : Bool) → Fair (outcome_new S ask n s W t)
      new true = then-fair (step S ask false n s (opens n s W)) _ (step-fair S ask h false n s (opens n s W) k) (λ o W₁ k₁. k₁)
      new false = (omega arith, omega arith)

  visit-at-fair : (ask : Ask) → Asks ask → (n : ℕ) (s : State) (W : World) → Once W.reports → (t : Bool) → Fair (visit_at S ask n s W t)
  visit-at-fair ask h n s W k false = outcome-fair ask h n s W k (look n s W.memo)
  visit-at-fair ask h n s W k true = new (ltb (length W.walked) S.walked_places)
    where
      new : (t : Bool) → Fair (visit_new S ask n s W t)
      new true = step-fair S ask h true n s (walks n s W) k
      new false = (omega arith, omega arith)

  visit-fair : (left : ℕ) → Asks (visit S left)
  unfolding Asks visit
  visit-fair zero walking n s W k = (omega arith, omega arith)
  visit-fair (suc left) walking n s W k =
      visit-at-fair (λ w m t W₁. visit S left w m t W₁) (visit-fair left) n s W k (walking && not (has_pair n s W.walked))

  walk-fair : (rules : List Rule) (W : World) → Once W.reports → Fair (walk_rules S rules W)
  unfolding Asks walk_rules
  walk-fair [] W k = k
  walk-fair (r ∷ rules) W k =
      then-fair (visit S open_nodes true r.root entry W) (λ o W₁. walk_rules S rules W₁) (visit-fair open_nodes true r.root entry W k)
      (λ o W₁ k₁. walk-fair rules W₁ k₁)

once-none : Once []
unfolding Once nodes_in times
once-none k = omega arith

pass-fair : (g : Grammar) (outcomes walked reports : ℕ) → Fair (stack_pass g outcomes walked reports)
unfolding stack_pass
pass-fair g outcomes walked reports = go (skips_modify g)
  where
    go : (t : Bool) → Fair (pass_unless g (setup_of g outcomes walked reports) t)
    go true = once-none
    go false = walk-fair (setup_of g outcomes walked reports) g.rules nothing_yet once-none

nodes-count : (ps : List Pair) → length (nodes_in ps) ≡ length ps
unfolding nodes_in
nodes-count [] = refl
nodes-count (p ∷ ps) = omega (arith, nodes-count ps)

loops-count : (ps : List Pair) → length (loop_reports ps) ≡ length ps
unfolding loop_reports
loops-count [] = refl
loops-count (p ∷ ps) = omega (arith, loops-count ps)

nodes-below : (n : ℕ) (ps : List Pair) → ((p : Pair) → Mem p ps → p.node < n) → AllBelow n (nodes_in ps)
unfolding nodes_in
nodes-below n [] h = tt
nodes-below n (p ∷ ps) h = (h p (inl refl), nodes-below n ps (λ q m. h q (inr m)))

module _ (g : Grammar) (outcomes walked reports : ℕ) where
  pub loops-refusal : (k : ℕ) → stack_pass g outcomes walked reports ≡ refused k → (0 < k) × (k ≤ 13)
  loops-refusal k e = subst Fair e (pass-fair g outcomes walked reports)

  -- reason 3
  pub few-loops : (W : World) → stack_pass g outcomes walked reports ≡ given tt W → length (loop_reports W.reports) ≤ length g.nodes
  unfolding Once
  few-loops W e =
      let once : Once W.reports = subst Fair e (pass-fair g outcomes walked reports) in
      let below : AllBelow (length g.nodes) (nodes_in W.reports) =
      nodes-below (length g.nodes) W.reports (λ p m. repetition-node g p.node (demand-3 g outcomes walked reports W e p m).part
      (report-repeats g outcomes walked reports W e p m)) in
      omega (arith, length-once (length g.nodes) (nodes_in W.reports) below (λ k l. once k), nodes-count W.reports, loops-count W.reports)
