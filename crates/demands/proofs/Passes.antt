-- What each pass tells by its reports, and so the whole check. Assumes nothing.
use mathlib.Core.Path.{◌≡◌, refl, sym, ◌∙◌}
use mathlib.Core.Bool.{Bool, true, false, cond}
use mathlib.Core.List.{List, [], ◌∷◌, ◌++◌}
use mathlib.Core.Logic.{inl, inr}
use Prim.Native.Nat.{ℕ, zero, suc, ◌+◌, ◌-◌, ◌≤◌, ◌<◌}
use native.Mathlib.Omega.{arith}
use lib.Dec.{ltb}
use lib.ListN.{length}
use Rattle.stack.specs.State.{State, Within, max_len}
use Rattle.stack.specs.Number.{number_of}
use Rattle.stack.proofs.Numbers.{state_at-number_of, number_of-lt}
use Rattle.image.specs.Verdict.{cannot_fail, not_progressing}
use Rattle.image.specs.Kinds.{numbers_of}
use Rattle.image.specs.Grammar.{Grammar, Rule, grammar, expr_at, bits_at}
use Rattle.image.specs.Refusal.{refusal}
use Rattle.image.specs.Formed.{Formed}
use Rattle.image.proofs.GrammarLaws as Image
use Rattle.machine.specs.Lists.{Mem}
use Rattle.machine.specs.Demand.{NeverEnding}
use Rattle.tables.specs.Report.{report}
use Rattle.asking.specs.Reading.{nodes_of}
use Rattle.asking.specs.World.{Pair, Answer}
use Rattle.asking.specs.World as A
use Rattle.asking.specs.StackPass.{stack_pass, loop_reports}
use Rattle.asking.proofs.Repetitions.{repetition-node}
use Rattle.asking.proofs.Theorems as Asking
use Rattle.passes.specs.Report.{Result, refused, done, place}
use Rattle.passes.specs.TopDown.{nodes_down, is_repeat, repeat_report, repetition_at, is_choice, judged_side, choice_report, choice_at, validate_repetition, validate_choices}
use Rattle.passes.specs.LeftRecursion.{Sought, search_from, found_in, rule_from, left_recursion}
use Rattle.passes.specs.Order.{before}
use Rattle.thatchnip.specs.Check.{loops_found, check_grammar, check_judged, check}
use Rattle.demands.specs.Report.{node_in, state_in, reason_in}
use Rattle.demands.specs.Told.{Told}
use Rattle.demands.proofs.Lists.{Every, every_append, every-flat, every-ordered, Gives, gives-onward, gives-if, gives-place}
use Rattle.demands.proofs.ReadBack.{node-back, state-number-back, state-back, reason-back}
use Rattle.demands.proofs.Nodes.{IsNode, walked-nodes, judged-node, ident-node}

module _ (g : Grammar) (formed : Formed g) where
  small : (n : ℕ) → IsNode g n → n < 65536
  small n h = omega (arith, formed.few-nodes)

  -- a report of another reason than 3
  told-other : (n reason : ℕ) → IsNode g n → 1 ≤ reason → reason ≤ 5 → (reason ≡ 3 → ⊥) → Told g (report n 0 reason)
  told-other n reason h l m other =
      let b : reason_in (report n 0 reason) ≡ reason = reason-back n 0 reason (small n h) (omega arith) in
      record {
        node = rw (node-back n 0 reason (small n h) (omega arith)) h;
        reason-least = omega arith;
        reason-most = omega arith;
        stateless = λ e. state-number-back n 0 reason (small n h) (omega arith);
        loops = λ e. absurd (other (sym b ∙ e));
      }

  -- a report of reason 3
  told-loop : (n : ℕ) (s : State) → IsNode g n → Within max_len s → NeverEnding (nodes_of g) n s → Told g (report n (number_of s) 3)
  told-loop n s h w never =
      let few : number_of s < 65536 = omega (arith, number_of-lt s w) in
      let b : reason_in (report n (number_of s) 3) ≡ 3 = reason-back n (number_of s) 3 (small n h) few in
      let node : node_in (report n (number_of s) 3) ≡ n = node-back n (number_of s) 3 (small n h) few in
      let state : state_in (report n (number_of s) 3) ≡ s = state-back n (number_of s) 3 (small n h) few ∙ state_at-number_of s w in
      record {
        node = rw node h;
        reason-least = omega arith;
        reason-most = omega arith;
        stateless = λ other. absurd (other b);
        loops = λ e. rw (node, state) never;
      }

  -- reasons 1 and 2
  repeat-told : (n bits : ℕ) → IsNode g n → Every (Told g) (repeat_report n bits)
  repeat-told n bits h = first (cannot_fail bits)
    where
      second : (t : Bool) → Every (Told g) (cond t (report n 0 2 ∷ []) [])
      second true = (told-other n 2 h (omega arith) (omega arith) (λ e. omega arith), tt)
      second false = tt

      first : (t : Bool) → Every (Told g) (cond t (report n 0 1 ∷ []) (cond (not_progressing bits) (report n 0 2 ∷ []) []))
      first true = (told-other n 1 h (omega arith) (omega arith) (λ e. omega arith), tt)
      first false = second (not_progressing bits)

  repetition-told : (n : ℕ) → IsNode g n → Every (Told g) (repetition_at g n)
  unfolding repetition_at
  repetition-told n h = go (is_repeat (expr_at g n))
    where
      go : (t : Bool) → Every (Told g) (cond t (repeat_report n (bits_at g (numbers_of (expr_at g n)).a)) [])
      go true = repeat-told n (bits_at g (numbers_of (expr_at g n)).a) h
      go false = tt

  repetitions-told : Every (Told g) (validate_repetition g)
  unfolding validate_repetition
  repetitions-told = every-flat (IsNode g) (Told g) (repetition_at g) repetition-told (nodes_down g) (walked-nodes g formed)

  -- reason 4
  side-told : (side bits : ℕ) → IsNode g side → Every (Told g) (choice_report side bits)
  side-told side bits h = go (cannot_fail bits)
    where
      go : (t : Bool) → Every (Told g) (cond t (report side 0 4 ∷ []) [])
      go true = (told-other side 4 h (omega arith) (omega arith) (λ e. omega arith), tt)
      go false = tt

  choice-told : (n : ℕ) → IsNode g n → Every (Told g) (choice_at g n)
  unfolding choice_at
  choice-told n h = go (is_choice (expr_at g n)) refl
    where
      side : ℕ
      side = judged_side g (numbers_of (expr_at g n)).a

      go : (t : Bool) → is_choice (expr_at g n) ≡ t → Every (Told g) (cond t (choice_report side (bits_at g side)) [])
      go true e = side-told side (bits_at g side) (judged-node g formed n h e)
      go false e = tt

  choices-told : Every (Told g) (validate_choices g)
  unfolding validate_choices
  choices-told = every-flat (IsNode g) (Told g) (choice_at g) choice-told (nodes_down g) (walked-nodes g formed)

  -- reason 5
  module _ (places : ℕ) where
    search-told : (found : List ℕ) → Every (Told g) found → (a : Sought) → IsNode g a.ident → (end : ℕ) → Gives (Told g) (found_in places found a end)
    search-told found h a l zero = h
    search-told found h a l (suc zero) =
        gives-if (Told g) (found ++ (report a.ident 0 5 ∷ []))
        (every_append (Told g) found (report a.ident 0 5 ∷ []) h (told-other a.ident 5 l (omega arith) (omega arith) (λ e. omega arith), tt))
        (ltb (length found) places)
    search-told found h a l (suc (suc k)) = tt

    rule_told : (rest : List ℕ → Result) → ((found : List ℕ) → Every (Told g) found → Gives (Told g) (rest found))
        → (a : Result) → Gives (Told g) a → Gives (Told g) (rule_from rest a)
    rule_told rest h (refused k) l = tt
    rule_told rest h (done found) l = h found l

    recursion-told : (rules : List Rule) (i : ℕ) → i + length rules ≡ length g.rules → (found : List ℕ) → Every (Told g) found
        → Gives (Told g) (left_recursion g places i rules found)
    unfolding left_recursion
    recursion-told [] i e found h = h
    recursion-told (r ∷ rules) i e found h =
        rule_told (λ more. left_recursion g places (suc i) rules more) (recursion-told rules (suc i) (omega arith))
        (found_in places found (search_from g i) (search_from g i).end)
        (search-told found h (search_from g i) (ident-node g formed i (omega arith)) (search_from g i).end)

  -- reason 3
  loops-told : (pairs : List Pair) → ((p : Pair) → Mem p pairs → Told g (report p.node (number_of p.state) 3)) → Every (Told g) (loop_reports pairs)
  unfolding loop_reports
  loops-told [] h = tt
  loops-told (p ∷ pairs) h = (h p (inl refl), loops-told pairs (λ q m. h q (inr m)))

  stack-told : (outcomes walked reports : ℕ) (found : List ℕ) → Every (Told g) found
      → Gives (Told g) (loops_found found (stack_pass g outcomes walked reports))
  stack-told outcomes walked reports found h = go (stack_pass g outcomes walked reports) refl
    where
      go : (a : Answer (Unit {0})) → stack_pass g outcomes walked reports ≡ a → Gives (Told g) (loops_found found a)
      go (A.refused k) e = tt
      go (A.given u W) e =
          every_append (Told g) found (loop_reports W.reports) h
          (loops-told W.reports (λ p m. told-loop p.node p.state
          (repetition-node g p.node (Asking.demand-3 g outcomes walked reports W e p m).part (Asking.report-repeats g outcomes walked reports W e p m))
          (Asking.report-within g outcomes walked reports W e p m) (Asking.demand-3 g outcomes walked reports W e p m)))

  grammar-told : (outcomes walked reports : ℕ) → Gives (Told g) (check_grammar g outcomes walked reports)
  unfolding check_grammar
  grammar-told outcomes walked reports =
      gives-onward (Told g) (place reports [] (validate_repetition g)) _ (gives-place (Told g) reports [] (validate_repetition g) tt repetitions-told)
      (λ found₁₂ h₁₂. gives-onward (Told g) (loops_found found₁₂ (stack_pass g outcomes walked (reports - length found₁₂))) _
      (stack-told outcomes walked (reports - length found₁₂) found₁₂ h₁₂)
      (λ found₃ h₃. gives-onward (Told g) (place reports found₃ (validate_choices g)) _ (gives-place (Told g) reports found₃ (validate_choices g) h₃ choices-told)
      (λ found₄ h₄. gives-onward (Told g) (left_recursion g reports 0 g.rules found₄) _ (recursion-told reports g.rules 0 (omega arith) found₄ h₄)
      (λ found₅ h₅. every-ordered (Told g) (before g) [] tt found₅ h₅))))

-- what the whole check tells by each of its reports
pub check-told : (image : List ℕ) (outcomes walked reports : ℕ) → Gives (Told (grammar image)) (check image outcomes walked reports)
unfolding check
check-told image outcomes walked reports = go (refusal image) refl
  where
    go : (k : ℕ) → refusal image ≡ k → Gives (Told (grammar image)) (check_judged image outcomes walked reports k)
    go zero e = grammar-told (grammar image) (Image.formed image e) outcomes walked reports
    go (suc k) e = tt
