-- Asking (document 01, "Outcomes"): `repeat`, `step`, `visit` and `outcome` in their order of asking, with refusals 8 to 12.
-- Assumes nothing.
use Rattle.std.specs.Prelude.{Bool, true, false, ◌&&◌, ◌||◌, not, cond, [], ℕ, zero, suc, ◌+◌, ltb, length}
use Rattle.std.proofs.Math.Option.{none, some}
use Rattle.stack.specs.State.{State, popped_one}
use Rattle.machine.specs.Kind.{Kind, InPlace, Match, Peek, PeekAll, Pop, PopAll, Drop, Rule, NodeTag, PosPred, NegPred, Opt, Push, PushLiteral, Seq, Choice, Unbounded, Bounded}
use Rattle.machine.specs.Outcome.{Maybe, Outcome, unknown, succeeds, either, never, failed, of_peek_all, of_pop_all, of_top, of_drop, of_pos_pred, of_neg_pred, of_seq, of_choice, of_opt, of_push, of_push_literal}
use Rattle.asking.specs.World.{Setup, World, Answer, refused, given, and_then, Ask, has_pair, has_node, Look, absent, opened, known, look, opens, closes, walks, reports}
use Rattle.asking.specs.Runs.{Search, loops, breaks, spent, steps, greedy, loops_forever}

-- distinct starts of one bounded or greedy run
abbrev pub starts : ℕ
starts = 64

-- steps of one search for a loop
abbrev pub search_steps : ℕ
search_steps = 64

module _ (S : Setup) where
  -- "10: a report is due and none is free"
  abbrev pub report_if : ℕ → State → World → Bool → Answer (Unit {0})
  report_if n s W true = given tt (reports n s W)
  report_if n s W false = refused 10

  -- "A report is held back if the body has bit 1 or 2; each node is reported once"
  abbrev pub report_due : ℕ → State → World → Bool → Answer (Unit {0})
  report_due n s W false = given tt W
  report_due n s W true = report_if n s W (ltb (length W.reports) S.report_places)

  abbrev pub report : ℕ → ℕ → State → World → Search → Answer (Unit {0})
  report n part s W loops = report_due n s W (not (S.held part) && not (has_node n W.reports))
  report n part s W breaks = given tt W
  report n part s W spent = given tt W

  -- while walking, an unbounded repetition is first searched for a loop
  abbrev pub searched : Ask → Bool → ℕ → ℕ → State → World → Answer (Unit {0})
  searched ask false n part s W = given tt W
  searched ask true n part s W = and_then (loops_forever ask part search_steps s [] W) (λ found W₁. report n part s W₁ found)

  -- a repetition with a failed required copy restores the stack to its own start
  abbrev pub restored : Bool → State → Maybe
  restored fails s = cond fails (some s) none

  abbrev pub unbounded_rest : Ask → Bool → ℕ → State → Bool → Bool → World → Maybe → Answer Outcome
  unbounded_rest ask walking part s empty fails W none = given (record { ok = none; err = restored fails s; empty = true }) W
  unbounded_rest ask walking part s empty fails W (some mid) =
      and_then (greedy ask walking part starts [] mid true empty none W)
      (λ r W₁. given (record { ok = r.end; err = restored fails s; empty = r.empty }) W₁)

  abbrev pub bounded_rest : Ask → Bool → ℕ → ℕ → State → Bool → Bool → World → Maybe → Answer Outcome
  bounded_rest ask walking part optional s empty fails W none = given (record { ok = none; err = restored fails s; empty = true }) W
  bounded_rest ask walking part optional s empty fails W (some mid) =
      and_then (steps ask walking part false starts optional [] mid empty false W)
      (λ r W₁. given (record { ok = r.end; err = restored fails s; empty = r.empty }) W₁)

  -- "a repetition neither, unless its most is 1 or less": under skips it is not empty
  unfoldable pub repeat_unbounded : Ask → Bool → ℕ → ℕ → ℕ → State → World → Answer Outcome
  repeat_unbounded ask walking n part required s W =
      and_then (searched ask walking n part s W)
      (λ u W₁. and_then (steps ask walking part true starts required [] s (not S.nodes.skips) false W₁)
      (λ r W₂. unbounded_rest ask walking part s r.empty r.fails W₂ r.end))

  unfoldable pub repeat_bounded : Ask → Bool → ℕ → ℕ → ℕ → State → World → Answer Outcome
  repeat_bounded ask walking part required optional s W =
      and_then (steps ask walking part true starts required [] s (not S.nodes.skips || ltb (required + optional) 2) false W)
      (λ r W₁. bounded_rest ask walking part optional s r.empty r.fails W₁ r.end)

  abbrev pub seq_rest : Ask → Bool → ℕ → State → Outcome → World → Maybe → Answer Outcome
  seq_rest ask walking right s l W none = given (of_seq S.nodes.skips s l never) W
  seq_rest ask walking right s l W (some mid) = and_then (ask walking right mid W) (λ r W₁. given (of_seq S.nodes.skips s l r) W₁)

  abbrev pub choice_rest : Ask → Bool → ℕ → State → Outcome → World → Maybe → Answer Outcome
  choice_rest ask walking right s l W none = given (of_choice s l never) W
  choice_rest ask walking right s l W (some f) = and_then (ask walking right f W) (λ r W₁. given (of_choice s l r) W₁)

  -- `step` and `ident`. A rule's name asks about the rule's root with walking off (`rule`)
  unfoldable pub step_kind : Ask → Bool → ℕ → Kind → State → World → Answer Outcome
  step_kind ask walking n InPlace s W = given (succeeds s) W
  step_kind ask walking n Match s W = given (either s) W
  step_kind ask walking n Peek s W = given (of_top s s) W
  step_kind ask walking n PeekAll s W = given (of_peek_all s) W
  step_kind ask walking n Pop s W = given (of_top s (popped_one s)) W
  step_kind ask walking n PopAll s W = given (of_pop_all s) W
  step_kind ask walking n Drop s W = given (of_drop s) W
  step_kind ask walking n (Rule root) s W = ask false root s W
  step_kind ask walking n (NodeTag part) s W = ask walking part s W
  step_kind ask walking n (PosPred part) s W = and_then (ask walking part s W) (λ o W₁. given (of_pos_pred s o) W₁)
  step_kind ask walking n (NegPred part) s W = and_then (ask walking part s W) (λ o W₁. given (of_neg_pred s o) W₁)
  step_kind ask walking n (Opt part) s W = and_then (ask walking part s W) (λ o W₁. given (of_opt s o) W₁)
  step_kind ask walking n (Push part) s W = and_then (ask walking part s W) (λ o W₁. given (of_push S.limit o) W₁)
  step_kind ask walking n (PushLiteral len) s W = given (of_push_literal S.limit len s) W
  step_kind ask walking n (Seq left right) s W = and_then (ask walking left s W) (λ l W₁. seq_rest ask walking right s l W₁ l.ok)
  step_kind ask walking n (Choice left right) s W = and_then (ask walking left s W) (λ l W₁. choice_rest ask walking right s l W₁ (failed l.err s))
  step_kind ask walking n (Unbounded part required) s W = repeat_unbounded ask walking n part required s W
  step_kind ask walking n (Bounded part required optional) s W = repeat_bounded ask walking part required optional s W

  unfoldable pub step : Ask → Bool → ℕ → State → World → Answer Outcome
  step ask walking n s W = step_kind ask walking n (S.nodes.at n) s W

  -- "8: a new (node, state) needs an outcome place and none is free"; walking is off below
  abbrev pub outcome_new : Ask → ℕ → State → World → Bool → Answer Outcome
  outcome_new ask n s W true = and_then (step ask false n s (opens n s W)) (λ o W₁. given o (closes n s o W₁))
  outcome_new ask n s W false = refused 8

  -- "a pair still open answers UNKNOWN"
  abbrev pub outcome_at : Ask → ℕ → State → World → Look → Answer Outcome
  outcome_at ask n s W (known o) = given o W
  outcome_at ask n s W opened = given unknown W
  outcome_at ask n s W absent = outcome_new ask n s W (ltb (length W.memo) S.outcome_places)

  -- "9: the same for walked"
  abbrev pub visit_new : Ask → ℕ → State → World → Bool → Answer Outcome
  visit_new ask n s W true = step ask true n s (walks n s W)
  visit_new ask n s W false = refused 9

  -- "While walking, a (node, state) not yet walked is stepped afresh"
  abbrev pub visit_at : Ask → ℕ → State → World → Bool → Answer Outcome
  visit_at ask n s W true = visit_new ask n s W (ltb (length W.walked) S.walked_places)
  visit_at ask n s W false = outcome_at ask n s W (look n s W.memo)

  -- `visit`, and with walking off `outcome`, while `left` more nodes may open: "on asking about a node, 12 (remembered answers
  -- included), then 9, then 8"
  unfoldable pub visit : ℕ → Ask
  visit zero walking n s W = refused 12
  visit (suc left) walking n s W = visit_at (λ w m t W₁. visit left w m t W₁) n s W (walking && not (has_pair n s W.walked))
