-- A step that is asked refuses with 1 to 13, or reports no node twice, if the way of asking does so. Assumes nothing.
use mathlib.Core.Path.{◌≡◌, refl, ◌∙◌}
use mathlib.Core.Bool.{Bool, true, false, ◌&&◌, not}
use mathlib.Core.List.{List, [], ◌∷◌, ◌++◌}
use mathlib.Core.Option.{Option, none, some}
use Prim.Native.Nat.{ℕ, zero, suc, ◌+◌, ◌<◌, ◌≤◌}
use native.Mathlib.Omega.{arith}
use lib.Dec.{eqb, ltb}
use lib.ListN.{length}
use borrow.Author.Tests.{eqb-true, eqb-false}
use Rattle.stack.specs.State.{State, fresh}
use Rattle.image.specs.Lists.{times}
use Rattle.image.proofs.Tests.{or-2}
use Rattle.image.proofs.ListLaws.{times-here, times-other, times-append}
use Rattle.machine.specs.Kind.{Kind, InPlace, Match, Peek, PeekAll, Pop, PopAll, Drop, Rule, NodeTag, PosPred, NegPred, Opt, Push, PushLiteral, Seq, Choice, Unbounded, Bounded}
use Rattle.machine.specs.Outcome.{Maybe, Outcome, failed, exact}
use Rattle.asking.specs.World.{Setup, Pair, World, Answer, refused, given, and_then, Ask, has_node}
use Rattle.asking.specs.Runs.{Ran, place, next, steps_go, steps_at, steps_full, steps, ends, greedy_go, greedy_at, greedy_full, greedy, Search, loops, breaks, spent, any_same_top, loops_seen, loops_out, loops_go, loops_forever}
use Rattle.asking.specs.Ask.{starts, search_steps, report_if, report_due, report, searched, unbounded_rest, bounded_rest, repeat_unbounded, repeat_bounded, seq_rest, choice_rest, step_kind, step}

-- the nodes that are reported, and that none is reported twice
unfoldable pub nodes_in : List Pair → List ℕ
nodes_in [] = []
nodes_in (p ∷ ps) = p.node ∷ nodes_in ps

unfoldable pub Once : List Pair → Type 0
Once ps = (k : ℕ) → times k (nodes_in ps) ≤ 1

not-reported : (n : ℕ) (ps : List Pair) → has_node n ps ≡ false → times n (nodes_in ps) ≡ 0
unfolding nodes_in times
not-reported n [] e = refl
not-reported n (p ∷ ps) e =
    let h = or-2 (eqb n p.node) (has_node n ps) e in
    times-other n p.node (nodes_in ps) (eqb-false n p.node h.0) ∙ not-reported n ps h.1

nodes-added : (ps : List Pair) (p : Pair) → nodes_in (ps ++ (p ∷ [])) ≡ nodes_in ps ++ (p.node ∷ [])
unfolding nodes_in
nodes-added [] p = refl
nodes-added (q ∷ ps) p = rw (nodes-added ps p)

once-added : (ps : List Pair) (n : ℕ) (s : State) → Once ps → has_node n ps ≡ false → Once (ps ++ (record { node = n; state = s } ∷ []))
unfolding Once times
once-added ps n s h e k = rw (nodes-added, times-append) (go (eqb k n) refl)
  where
    go : (t : Bool) → eqb k n ≡ t → times k (nodes_in ps) + times k (n ∷ []) ≤ 1
    go true q = rw (eqb-true k n q) (omega (arith, not-reported n ps e, times-here n []))
    go false q = omega (arith, h k, times-other k n [] (eqb-false k n q))

-- a refusal of document 01, or a world in which no node is reported twice
abbrev pub Fair : {A : Type 0} → Answer A → Type 0
Fair (refused k) = (0 < k) × (k ≤ 13)
Fair (given a W) = Once W.reports

unfoldable pub Asks : Ask → Type 0
Asks ask = (walking : Bool) (n : ℕ) (s : State) (W : World) → Once W.reports → Fair (ask walking n s W)

pub then-fair : {A B : Type 0} (a : Answer A) (f : A → World → Answer B) → Fair a → ((x : A) (W : World) → Once W.reports → Fair (f x W)) → Fair (and_then a f)
then-fair (refused k) f h g = h
then-fair (given a W) f h g = g a W h

module _ (ask : Ask) (h : Asks ask) where
  steps-fair : (walking : Bool) (part : ℕ) (required : Bool) (room left : ℕ) (trace : List State) (s : State) (empty fails : Bool) (W : World)
      → Once W.reports → Fair (steps ask walking part required room left trace s empty fails W)
  unfolding Asks steps
  steps-fair walking part required room zero trace s empty fails W k = k
  steps-fair walking part required zero (suc left) trace s empty fails W k = go (place s trace)
    where
      go : (v : Option ℕ) → Fair (steps_full ask walking part trace s (suc left) empty fails W v)
      go none = (omega arith, omega arith)
      go (some j) = k
  steps-fair walking part required (suc room) (suc left) trace s empty fails W k = go (steps-fair walking part required room left) (place s trace)
    where
      rest : List State → State → Bool → Bool → World → Answer Ran
      rest tr t e f W₁ = steps ask walking part required room left tr t e f W₁

      go : ((tr : List State) (t : State) (e f : Bool) (W₁ : World) → Once W₁.reports → Fair (rest tr t e f W₁))
          → (v : Option ℕ) → Fair (steps_at ask walking part required rest trace s (suc left) empty fails W v)
      go ih (some j) = k
      go ih none = then-fair (ask walking part s W) _ (h walking part s W k) (λ o W₁ k₁. on o W₁ k₁ (next required s o))
        where
          on : (o : Outcome) (W₁ : World) → Once W₁.reports → (v : Maybe) → Fair (steps_go ask walking part rest trace s o v empty fails W₁)
          on o W₁ k₁ none = k₁
          on o W₁ k₁ (some t) = ih (s ∷ trace) t _ _ W₁ k₁

  greedy-fair : (walking : Bool) (part room : ℕ) (seen : List State) (s : State) (first empty : Bool) (ok : Maybe) (W : World)
      → Once W.reports → Fair (greedy ask walking part room seen s first empty ok W)
  unfolding Asks greedy
  greedy-fair walking part zero seen s first empty ok W k = go (place s seen)
    where
      go : (v : Option ℕ) → Fair (greedy_full ask walking part empty ok W v)
      go none = (omega arith, omega arith)
      go (some j) = k
  greedy-fair walking part (suc room) seen s first empty ok W k = go (greedy-fair walking part room) (place s seen)
    where
      rest : List State → State → Bool → Maybe → World → Answer Ran
      rest sn t e v W₁ = greedy ask walking part room sn t false e v W₁

      go : ((sn : List State) (t : State) (first e : Bool) (v : Maybe) (W₁ : World) → Once W₁.reports → Fair (greedy ask walking part room sn t first e v W₁))
          → (v : Option ℕ) → Fair (greedy_at ask walking part rest seen s first empty ok W v)
      go ih (some j) = k
      go ih none = then-fair (ask walking part s W) _ (h walking part s W k) (λ o W₁ k₁. on o W₁ k₁ o.ok (ends first s o.err ok))
        where
          on : (o : Outcome) (W₁ : World) → Once W₁.reports → (u v : Maybe) → Fair (greedy_go ask walking part rest seen s empty o u v W₁)
          on o W₁ k₁ none v = k₁
          on o W₁ k₁ (some t) v = ih (s ∷ seen) t false _ v W₁ k₁

  loops_forever-fair : (part left : ℕ) (cur : State) (past : List State) (W : World) → Once W.reports → Fair (loops_forever ask part left cur past W)
  unfolding Asks loops_forever
  loops_forever-fair part zero cur past W k = k
  loops_forever-fair part (suc left) cur past W k =
      then-fair (ask false part (fresh cur) W) _ (h false part (fresh cur) W k) (λ o W₁ k₁. go (loops_forever-fair part left) W₁ k₁ (exact o))
    where
      rest : State → List State → World → Answer Search
      rest c p W₂ = loops_forever ask part left c p W₂

      go : ((c : State) (p : List State) (W₂ : World) → Once W₂.reports → Fair (rest c p W₂))
          → (W₁ : World) → Once W₁.reports → (v : Maybe) → Fair (loops_go ask part rest cur past W₁ v)
      go ih W₁ k₁ none = k₁
      go ih W₁ k₁ (some out) = at_out out.intact
        where
          at_seen : (t : Bool) → Fair (loops_seen ask part rest cur past out W₁ t)
          at_seen true = k₁
          at_seen false = ih out (cur ∷ past) W₁ k₁

          at_out : (t : Bool) → Fair (loops_out ask part rest cur past out W₁ t)
          at_out true = at_seen (any_same_top out (cur ∷ past))
          at_out false = ih out _ W₁ k₁

module _ (S : Setup) (ask : Ask) (h : Asks ask) (walking : Bool) (n : ℕ) (s : State) where
  one-part : (part : ℕ) (W : World) (f : Outcome → Outcome) → Once W.reports → Fair (and_then (ask walking part s W) (λ o W₁. given (f o) W₁))
  unfolding Asks
  one-part part W f k = then-fair (ask walking part s W) (λ o W₁. given (f o) W₁) (h walking part s W k) (λ o W₁ k₁. k₁)

  -- a node that was reported is not reported again
  report-fair : (part : ℕ) (W : World) → Once W.reports → (found : Search) → Fair (report S n part s W found)
  report-fair part W k breaks = k
  report-fair part W k spent = k
  report-fair part W k loops = due (not (S.held part)) (has_node n W.reports) refl
    where
      free : has_node n W.reports ≡ false → (t : Bool) → Fair (report_if S n s W t)
      free e true = once-added W.reports n s k e
      free e false = (omega arith, omega arith)

      due : (t u : Bool) → has_node n W.reports ≡ u → Fair (report_due S n s W (t && not u))
      due true true e = k
      due true false e = free e (ltb (length W.reports) S.report_places)
      due false u e = k

  searched-fair : (walking : Bool) (part : ℕ) (W : World) → Once W.reports → Fair (searched S ask walking n part s W)
  searched-fair false part W k = k
  searched-fair true part W k =
      then-fair (loops_forever ask part search_steps s [] W) _ (loops_forever-fair ask h part search_steps s [] W k)
      (λ found W₁ k₁. report-fair part W₁ k₁ found)

  unbounded-fair : (part required : ℕ) (W : World) → Once W.reports → Fair (repeat_unbounded S ask walking n part required s W)
  unfolding repeat_unbounded
  unbounded-fair part required W k =
      then-fair (searched S ask walking n part s W) _ (searched-fair walking part W k)
      (λ u W₁ k₁. then-fair _ _
      (steps-fair ask h walking part true starts required [] s _ false W₁ k₁)
      (λ r W₂ k₂. rest r W₂ k₂ r.end))
    where
      rest : (r : Ran) (W₂ : World) → Once W₂.reports → (mid : Maybe) → Fair (unbounded_rest S ask walking part s r.empty r.fails W₂ mid)
      rest r W₂ k₂ none = k₂
      rest r W₂ k₂ (some mid) =
          then-fair (greedy ask walking part starts [] mid true r.empty none W₂) _
          (greedy-fair ask h walking part starts [] mid true r.empty none W₂ k₂) (λ g W₃ k₃. k₃)

  bounded-fair : (part required optional : ℕ) (W : World) → Once W.reports → Fair (repeat_bounded S ask walking part required optional s W)
  unfolding repeat_bounded
  bounded-fair part required optional W k =
      then-fair (steps ask walking part true starts required [] s _ false W) _
      (steps-fair ask h walking part true starts required [] s _ false W k) (λ r W₂ k₂. rest r W₂ k₂ r.end)
    where
      rest : (r : Ran) (W₂ : World) → Once W₂.reports → (mid : Maybe) → Fair (bounded_rest S ask walking part optional s r.empty r.fails W₂ mid)
      rest r W₂ k₂ none = k₂
      rest r W₂ k₂ (some mid) =
          then-fair (steps ask walking part false starts optional [] mid r.empty false W₂) _
          (steps-fair ask h walking part false starts optional [] mid r.empty false W₂ k₂) (λ g W₃ k₃. k₃)

  kind-fair : (kind : Kind) (W : World) → Once W.reports → Fair (step_kind S ask walking n kind s W)
  unfolding Asks step_kind
  kind-fair InPlace W k = k
  kind-fair Match W k = k
  kind-fair Peek W k = k
  kind-fair PeekAll W k = k
  kind-fair Pop W k = k
  kind-fair PopAll W k = k
  kind-fair Drop W k = k
  kind-fair (Rule root) W k = h false root s W k
  kind-fair (NodeTag part) W k = h walking part s W k
  kind-fair (PosPred part) W k = one-part part W _ k
  kind-fair (NegPred part) W k = one-part part W _ k
  kind-fair (Opt part) W k = one-part part W _ k
  kind-fair (Push part) W k = one-part part W _ k
  kind-fair (PushLiteral len) W k = k
  kind-fair (Seq left right) W k = then-fair (ask walking left s W) _ (h walking left s W k) (λ l W₁ k₁. rest l W₁ k₁ l.ok)
    where
      rest : (l : Outcome) (W₁ : World) → Once W₁.reports → (v : Maybe) → Fair (seq_rest S ask walking right s l W₁ v)
      rest l W₁ k₁ none = k₁
      rest l W₁ k₁ (some mid) = then-fair (ask walking right mid W₁) _ (h walking right mid W₁ k₁) (λ r W₂ k₂. k₂)
  kind-fair (Choice left right) W k = then-fair (ask walking left s W) _ (h walking left s W k) (λ l W₁ k₁. rest l W₁ k₁ (failed l.err s))
    where
      rest : (l : Outcome) (W₁ : World) → Once W₁.reports → (v : Maybe) → Fair (choice_rest S ask walking right s l W₁ v)
      rest l W₁ k₁ none = k₁
      rest l W₁ k₁ (some f) = then-fair (ask walking right f W₁) _ (h walking right f W₁ k₁) (λ r W₂ k₂. k₂)
  kind-fair (Unbounded part required) W k = unbounded-fair part required W k
  kind-fair (Bounded part required optional) W k = bounded-fair part required optional W k

  pub step-fair : (W : World) → Once W.reports → Fair (step S ask walking n s W)
  unfolding step
  step-fair W k = kind-fair (S.nodes.at n) W k
