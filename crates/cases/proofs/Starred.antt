-- Every starred case of document 01 under one statement, by computation. Assumes nothing.
use mathlib.Core.Path.{◌≡◌, refl}
use mathlib.Core.Bool.{true}
use mathlib.Core.List.{[], ◌∷◌}
use Prim.Native.Nat.{ℕ, ◌+◌, ◌≤◌}
use lib.ListN.{length}
use Rattle.stack.specs.State.{max_len, push, unknown}
use Rattle.stack.specs.Covers.{Stack, sum}
use Rattle.machine.specs.Kind.{Match, Pop, PopAll, PosPred, Seq, Choice, Unbounded}
use Rattle.machine.specs.Machine.{node, success, run, done, Steps, Stands}
use Rattle.machine.proofs.Starred as M
use Rattle.asking.specs.Runs.{spent}
use Rattle.cases.specs.Starred.{starred, runs, expected, pushing, search, holding, a_star, popping, kinds}

pub record Starred : Type 0 where
  -- what the check gives, image by image
  pub table : runs starred ≡ expected starred
  -- "PUSH_LITERAL("")*: nothing, 64 steps used"
  pub steps-used : search pushing 0 ≡ spent
  -- "Push at length 7 gives 8; at 8, UNKNOWN."
  pub push-at-7 : length (push max_len true (holding 7)).tops ≡ 8
  pub push-at-8 : push max_len true (holding 8) ≡ unknown
  -- ""a"*: on the machine, from the empty stack and input 1, it can succeed at 0 and at 1"
  pub a-star-read : kinds a_star 2 ≡ Match ∷ Unbounded 0 0 ∷ []
  pub a-star-at-0 : Steps M.a_star 6 (run (node 1) 0 []) (done success 0 [])
  pub a-star-at-1 : Steps M.a_star 9 (run (node 1) 0 []) (done success 1 [])
  -- "POP_ALL ~ (&"a" | POP)*: without "a" it stops at POP"
  pub popping-read : kinds popping 7 ≡ PopAll ∷ Match ∷ PosPred 1 ∷ Pop ∷ Choice 2 3 ∷ Unbounded 4 0 ∷ Seq 0 5 ∷ []
  pub pop-reached : (size p : ℕ) (st : Stack) → p + sum st ≤ size → Steps (M.pop_after_all size) 12 (run (node 6) p st) (M.at_pop p st (p + sum st))
  pub pop-stands : (size p : ℕ) (st : Stack) (q : ℕ) → Stands (M.pop_after_all size) (M.at_pop p st q)

pub starred-hold : Starred
unfolding Rattle.stack.specs.Number.number_of Rattle.stack.specs.Number.state_at Rattle.stack.specs.State.all_blank Rattle.stack.specs.State.is_empty Rattle.stack.specs.State.non_empty Rattle.stack.specs.State.top_blank Rattle.stack.specs.State.join Rattle.stack.specs.State.push Rattle.stack.specs.State.popped_one Rattle.stack.specs.State.popped_all Rattle.stack.specs.State.same_top Rattle.stack.specs.State.fresh Rattle.image.specs.Bytes.u32_at Rattle.image.specs.Grammar.grammar Rattle.image.specs.Grammar.expr_at Rattle.image.specs.Grammar.bits_at Rattle.image.specs.Grammar.start_at Rattle.image.specs.Grammar.end_at Rattle.image.specs.Grammar.name_at Rattle.image.specs.Grammar.root_at Rattle.image.specs.Grammar.text_of Rattle.image.specs.Grammar.find_from Rattle.image.specs.Grammar.find_rule Rattle.image.specs.Grammar.roots_of Rattle.image.specs.Grammar.parts_in Rattle.image.specs.Grammar.used Rattle.image.specs.Kinds.expr_of Rattle.image.specs.Layout.node_expr Rattle.image.specs.Lists.any_below Rattle.image.specs.Lists.up_to Rattle.image.specs.Lists.same Rattle.image.specs.Lists.times Rattle.image.specs.Refusal.over_limit Rattle.image.specs.Refusal.misplaced Rattle.image.specs.Refusal.stray_field Rattle.image.specs.Refusal.bad_node Rattle.image.specs.Refusal.bad_rule Rattle.image.specs.Refusal.share_name Rattle.image.specs.Refusal.shares_earlier Rattle.image.specs.Refusal.part_not_below Rattle.image.specs.Refusal.part_rule_broken Rattle.image.specs.Refusal.refusal Rattle.image.specs.Tally.marked Rattle.image.specs.Tally.parts_below Rattle.image.specs.Tally.roots_below Rattle.image.specs.View.term_at Rattle.asking.specs.Ask.repeat_unbounded Rattle.asking.specs.Ask.repeat_bounded Rattle.asking.specs.Ask.step_kind Rattle.asking.specs.Ask.step Rattle.asking.specs.Ask.visit Rattle.asking.specs.Modifies.expr_modifies Rattle.asking.specs.Modifies.node_modifies Rattle.asking.specs.Modifies.rule_modifies Rattle.asking.specs.Modifies.skips_modify Rattle.asking.specs.Reading.name_kind Rattle.asking.specs.Reading.kind_of Rattle.asking.specs.Reading.skips_of Rattle.asking.specs.Reading.nodes_of Rattle.asking.specs.Reading.held_back Rattle.asking.specs.Runs.steps Rattle.asking.specs.Runs.greedy Rattle.asking.specs.Runs.loops_forever Rattle.asking.specs.StackPass.loop_reports Rattle.asking.specs.StackPass.setup_of Rattle.asking.specs.StackPass.walk_rules Rattle.asking.specs.StackPass.stack_pass Rattle.passes.specs.LeftRecursion.check_expr Rattle.passes.specs.LeftRecursion.enter Rattle.passes.specs.LeftRecursion.search_from Rattle.passes.specs.LeftRecursion.left_recursion Rattle.passes.specs.Order.before Rattle.passes.specs.Order.insert Rattle.passes.specs.Order.insert_all Rattle.passes.specs.Report.place Rattle.passes.specs.Report.flat Rattle.passes.specs.TopDown.down Rattle.passes.specs.TopDown.nodes_down Rattle.passes.specs.TopDown.repetition_at Rattle.passes.specs.TopDown.judged_side Rattle.passes.specs.TopDown.choice_at Rattle.passes.specs.TopDown.validate_repetition Rattle.passes.specs.TopDown.validate_choices Rattle.thatchnip.specs.Check.check_grammar Rattle.thatchnip.specs.Check.check
starred-hold =
    record {
      table = refl;
      steps-used = refl;
      push-at-7 = refl;
      push-at-8 = refl;
      a-star-read = refl;
      a-star-at-0 = M.a-star-at-0;
      a-star-at-1 = M.a-star-at-1;
      popping-read = refl;
      pop-reached = M.pop-reached;
      pop-stands = M.pop-stands;
    }
