-- Shut out by name (document 01, "What the promises say"): what a check that fits the entry's promise must give at three grammars. Assumes nothing.
use mathlib.Core.Path.{◌≡◌, refl, ◌∙◌}
use mathlib.Core.List.{List, [], ◌∷◌}
use Prim.Native.Nat.{ℕ}
use lib.ListN.{length}
use Rattle.tables.specs.Words.{laid}
use Rattle.passes.specs.Report.{done}
use Rattle.thatchnip.specs.Exit.{checked}
use Rattle.thatchnip.specs.Promise.{Checked}
use Rattle.cases.specs.Images.{image_of, text, r, a, Str-a, POP-ALL, PEEK-ALL, Seq, Rep}

-- every number and every report table that fit the promise, for tables of 100, 100 and 10 places
abbrev pub Gives : List ℕ → List ℕ → Type 0
Gives image found =
    (outcomes walked reports : List ℕ) → length outcomes ≡ 800 → length walked ≡ 400 → length reports ≡ 80
    → (n : ℕ) (outcomes' walked' reports' : List ℕ) → Checked image outcomes walked reports n outcomes' walked' reports' → (n ≡ length found) × (reports' ≡ laid 80 found)

gives : (image found : List ℕ) → checked image 800 400 80 ≡ done found → Gives image found
gives image found e outcomes walked reports lo lw lr n outcomes' walked' reports' h =
    let same : checked image (length outcomes) (length walked) (length reports) ≡ done found = rw (lo, lw, lr) e in
    (h.number ∙ rw same, h.report-bytes ∙ rw (same, lr))

pub record ShutOut : Type 0 where
  -- "the check that refuses everything and the one that reports nothing"; "the one that walks only the .. first state"
  pub at-the-first-rule : Gives (image_of (r 3 ∷ []) (POP-ALL ∷ PEEK-ALL ∷ Rep 1 ∷ Seq 0 2 ∷ []) text) (12884901890 ∷ [])
  -- "the one that reports every repetition"
  pub at-a-sound-repetition : Gives (image_of (r 1 ∷ []) (PEEK-ALL ∷ Rep 0 ∷ []) text) []
  -- "the one that walks only the first rule"
  pub at-the-second-rule : Gives (image_of (a 0 ∷ r 4 ∷ []) (Str-a ∷ POP-ALL ∷ PEEK-ALL ∷ Rep 2 ∷ Seq 1 3 ∷ []) text) (12884901891 ∷ [])

pub shut_out : ShutOut
unfolding Rattle.stack.specs.Number.number_of Rattle.stack.specs.Number.state_at Rattle.stack.specs.State.all_blank Rattle.stack.specs.State.is_empty Rattle.stack.specs.State.non_empty Rattle.stack.specs.State.top_blank Rattle.stack.specs.State.join Rattle.stack.specs.State.push Rattle.stack.specs.State.popped_one Rattle.stack.specs.State.popped_all Rattle.stack.specs.State.same_top Rattle.stack.specs.State.fresh Rattle.image.specs.Bytes.u32_at Rattle.image.specs.Grammar.grammar Rattle.image.specs.Grammar.expr_at Rattle.image.specs.Grammar.bits_at Rattle.image.specs.Grammar.start_at Rattle.image.specs.Grammar.end_at Rattle.image.specs.Grammar.name_at Rattle.image.specs.Grammar.root_at Rattle.image.specs.Grammar.text_of Rattle.image.specs.Grammar.find_from Rattle.image.specs.Grammar.find_rule Rattle.image.specs.Grammar.roots_of Rattle.image.specs.Grammar.parts_in Rattle.image.specs.Grammar.used Rattle.image.specs.Kinds.expr_of Rattle.image.specs.Layout.node_expr Rattle.image.specs.Lists.any_below Rattle.image.specs.Lists.up_to Rattle.image.specs.Lists.same Rattle.image.specs.Lists.times Rattle.image.specs.Refusal.over_limit Rattle.image.specs.Refusal.misplaced Rattle.image.specs.Refusal.stray_field Rattle.image.specs.Refusal.bad_node Rattle.image.specs.Refusal.bad_rule Rattle.image.specs.Refusal.share_name Rattle.image.specs.Refusal.shares_earlier Rattle.image.specs.Refusal.part_not_below Rattle.image.specs.Refusal.part_rule_broken Rattle.image.specs.Refusal.refusal Rattle.image.specs.Tally.marked Rattle.image.specs.Tally.parts_below Rattle.image.specs.Tally.roots_below Rattle.image.specs.View.term_at Rattle.asking.specs.Ask.repeat_unbounded Rattle.asking.specs.Ask.repeat_bounded Rattle.asking.specs.Ask.step_kind Rattle.asking.specs.Ask.step Rattle.asking.specs.Ask.visit Rattle.asking.specs.Modifies.expr_modifies Rattle.asking.specs.Modifies.node_modifies Rattle.asking.specs.Modifies.rule_modifies Rattle.asking.specs.Modifies.skips_modify Rattle.asking.specs.Reading.name_kind Rattle.asking.specs.Reading.kind_of Rattle.asking.specs.Reading.skips_of Rattle.asking.specs.Reading.nodes_of Rattle.asking.specs.Reading.held_back Rattle.asking.specs.Runs.steps Rattle.asking.specs.Runs.greedy Rattle.asking.specs.Runs.loops_forever Rattle.asking.specs.StackPass.loop_reports Rattle.asking.specs.StackPass.setup_of Rattle.asking.specs.StackPass.walk_rules Rattle.asking.specs.StackPass.stack_pass Rattle.passes.specs.LeftRecursion.check_expr Rattle.passes.specs.LeftRecursion.enter Rattle.passes.specs.LeftRecursion.search_from Rattle.passes.specs.LeftRecursion.left_recursion Rattle.passes.specs.Order.before Rattle.passes.specs.Order.insert Rattle.passes.specs.Order.insert_all Rattle.passes.specs.Report.place Rattle.passes.specs.Report.flat Rattle.passes.specs.TopDown.down Rattle.passes.specs.TopDown.nodes_down Rattle.passes.specs.TopDown.repetition_at Rattle.passes.specs.TopDown.judged_side Rattle.passes.specs.TopDown.choice_at Rattle.passes.specs.TopDown.validate_repetition Rattle.passes.specs.TopDown.validate_choices Rattle.thatchnip.specs.Check.check_grammar Rattle.thatchnip.specs.Check.check Rattle.thatchnip.specs.Exit.checked
shut_out =
    record {
      at-the-first-rule = gives (image_of (r 3 ∷ []) (POP-ALL ∷ PEEK-ALL ∷ Rep 1 ∷ Seq 0 2 ∷ []) text) (12884901890 ∷ []) refl;
      at-a-sound-repetition = gives (image_of (r 1 ∷ []) (PEEK-ALL ∷ Rep 0 ∷ []) text) [] refl;
      at-the-second-rule = gives (image_of (a 0 ∷ r 4 ∷ []) (Str-a ∷ POP-ALL ∷ PEEK-ALL ∷ Rep 2 ∷ Seq 1 3 ∷ []) text) (12884901891 ∷ []) refl;
    }
