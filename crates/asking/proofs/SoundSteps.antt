-- Outcomes are sound: every answer that asking gives, remembered, open or fresh, for any places and any limit; and each report is
-- of a loop that was found. Assumes nothing.
use mathlib.Core.Path.{◌≡◌, refl, sym, ◌∙◌, subst}
use mathlib.Core.Bool.{Bool, true, false, ◌&&◌, ◌||◌, not, false≢true}
use mathlib.Core.List.{[]}
use mathlib.Core.Logic.{◌⊎◌, inl, inr}
use mathlib.Core.Option.{none, some}
use Prim.Native.Nat.{ℕ, ◌+◌, ◌≤◌}
use native.Mathlib.Omega.{arith}
use lib.Dec.{ltb}
use lib.ListN.{length}
use borrow.Author.Tests.{ltb-true, not-true}
use Rattle.stack.specs.State.{State}
use Rattle.machine.specs.Lists.{Mem}
use Rattle.machine.specs.Kind.{Kind, InPlace, Match, Peek, PeekAll, Pop, PopAll, Drop, Rule, NodeTag, PosPred, NegPred, Opt, Push, PushLiteral, Seq, Choice, Unbounded, Bounded, Nodes}
use Rattle.machine.specs.Outcome.{Maybe, Outcome, never, failed}
use Rattle.machine.specs.Machine.{success, failure}
use Rattle.machine.specs.Sound.{Sound}
use Rattle.machine.proofs.Parts.{in_place-sound, match-sound, peek-sound, pop-sound, peek_all-sound, pop_all-sound, drop-sound, rule-sound, node_tag-sound, pos_pred-sound, neg_pred-sound, opt-sound, push-sound, push_literal-sound, seq-sound, choice-sound}
use Rattle.machine.proofs.Turns.{NoGaps, Copies, copies-weaker, Closed, unbounded-sound, bounded-sound}
use Rattle.machine.proofs.Loops.{Loops}
use Rattle.asking.specs.World.{Setup, World, given, and_then, Ask, has_node}
use Rattle.asking.specs.Runs.{Ran, next, steps, greedy, Search, loops, breaks, spent, loops_forever}
use Rattle.asking.specs.Ask.{starts, search_steps, report_if, report_due, report, searched, restored, unbounded_rest, bounded_rest, repeat_unbounded, repeat_bounded, seq_rest, choice_rest, step_kind, step}
use Rattle.asking.proofs.Kept.{Law, Kept, Good, Keeps, then-good, good-weaker, each-added}
use Rattle.asking.proofs.Lasso.{Linked}
use Rattle.asking.proofs.SoundRuns.{sound_law, StepsSound, steps-sound, StartOf, GreedySound, greedy-sound, Found, loops_forever-sound}

-- where there is no success, `empty` says nothing
no-success : (nodes : Nodes) (n : ℕ) (s : State) (err : Maybe) (empty : Bool) → Sound nodes n s (record { ok = none; err = err; empty = empty })
    → Sound nodes n s (record { ok = none; err = err; empty = true })
no-success nodes n s err empty h size list st p c k success q z x = absurd (h size list st p c k success q z x).0
no-success nodes n s err empty h size list st p c k failure q z x = h size list st p c k failure q z x

none-some : (t : State) → ◌≡◌ {A = Maybe} none (some t) → ⊥
none-some t e = let z : ◌≡◌ {A = ℕ} 0 1 = cc in omega arith

some_is : {a b : State} → ◌≡◌ {A = Maybe} (some a) (some b) → a ≡ b
some_is e = cc

-- "unless its most is 1 or less"
at_most_one : (m : ℕ) (skips t : Bool) → ltb m 2 ≡ t → not skips || t ≡ true → (skips ≡ false) ⊎ (m + 0 ≤ 1)
at_most_one m false t e h = inl refl
at_most_one m true true e h = inr (let l = ltb-true m 2 e in omega arith)
at_most_one m true false e h = absurd (false≢true h)

-- what is kept of a report: it is of a loop that was found
module _ (S : Setup) (R : ℕ → State → Type 0)
    (of-loop : (n part required : ℕ) (s : State) → S.nodes.at n ≡ Unbounded part required → Loops S.nodes part search_steps s [] → R n s)
    (ask : Ask) (h : Keeps (sound_law S.nodes R) ask) (walking : Bool) (n : ℕ) where
  abbrev L : Law
  L = sound_law S.nodes R

  one-part : (part : ℕ) (s : State) (W : World) (f : Outcome → Outcome) → Kept L W
      → ((o : Outcome) → Sound S.nodes part s o → Sound S.nodes n s (f o))
      → Good L (and_then (ask walking part s W) (λ o W₁. given (f o) W₁)) (Sound S.nodes n s)
  unfolding Keeps
  one-part part s W f k g =
      then-good L (ask walking part s W) (λ o W₁. given (f o) W₁) (Sound S.nodes part s) (Sound S.nodes n s) (h walking part s W tt k)
      (λ o W₁ k₁ so. (k₁, g o so))

  report-good : (part required : ℕ) (s : State) (W : World) → S.nodes.at n ≡ Unbounded part required → Kept L W → (found : Search)
      → Found S.nodes R ask h part search_steps s [] found → Good L (report S n part s W found) (λ u. Unit {0})
  report-good part required s W e k breaks q = (k, tt)
  report-good part required s W e k spent q = (k, tt)
  report-good part required s W e k loops q = due (not (S.held part) && not (has_node n W.reports))
    where
      free : (t : Bool) → Good L (report_if S n s W t) (λ u. Unit {0})
      free true = ((k.0, each-added R W.reports n s k.1 (of-loop n part required s e q)), tt)
      free false = tt

      due : (t : Bool) → Good L (report_due S n s W t) (λ u. Unit {0})
      due false = (k, tt)
      due true = free (ltb (length W.reports) S.report_places)

  searched-good : (walking : Bool) (part required : ℕ) (s : State) (W : World) → S.nodes.at n ≡ Unbounded part required → Kept L W
      → Good L (searched S ask walking n part s W) (λ u. Unit {0})
  searched-good false part required s W e k = (k, tt)
  searched-good true part required s W e k =
      then-good L (loops_forever ask part search_steps s [] W) _ (Found S.nodes R ask h part search_steps s []) (λ u. Unit {0})
      (loops_forever-sound S.nodes R ask h part search_steps s [] W k) (λ found W₁ k₁ q. report-good part required s W₁ e k₁ found q)

  -- the copies of an unbounded repetition, which is empty only where no gap may stand
  unbounded-copies : (part required : ℕ) (s : State) (W : World) (empty : Bool) → S.nodes.at n ≡ Unbounded part required
      → (empty ≡ true → S.nodes.skips ≡ false) → Kept L W
      → Good L (and_then (steps ask walking part true starts required [] s empty false W)
      (λ r W₂. unbounded_rest S ask walking part s r.empty r.fails W₂ r.end)) (Sound S.nodes n s)
  unfolding Linked StepsSound GreedySound StartOf Closed
  unbounded-copies part required s W empty e quiet k =
      then-good L (steps ask walking part true starts required [] s empty false W) _
      (StepsSound S.nodes R ask h walking part true empty false required s) (Sound S.nodes n s)
      (steps-sound S.nodes R ask h walking part true starts required [] s empty false W k tt) (λ r W₂ k₂ q. rest r W₂ k₂ q r.end refl)
    where
      rest : (r : Ran) (W₂ : World) → Kept L W₂ → StepsSound S.nodes R ask h walking part true empty false required s r
          → (mid : Maybe) → r.end ≡ mid → Good L (unbounded_rest S ask walking part s r.empty r.fails W₂ mid) (Sound S.nodes n s)
      rest r W₂ k₂ q none y = (
        k₂,
        no-success S.nodes n s (restored S r.fails s) r.empty
            (unbounded-sound S.nodes n part required r.empty r.fails s none none
            (subst (λ v. Copies S.nodes part (next true) r.empty r.fails required s v) y q.0)
            (λ x. ⊥) e (λ x. quiet (q.1 x)) (λ t z. absurd (none-some t z)) (λ t z. absurd z)),
      )
      rest r W₂ k₂ q (some mid) y =
          then-good L (greedy ask walking part starts [] mid true r.empty none W₂) _ (GreedySound S.nodes part r.empty [] mid)
          (Sound S.nodes n s)
          (greedy-sound S.nodes R ask h walking part starts [] mid true r.empty none W₂ k₂ (λ x z. absurd z))
          (λ g W₃ k₃ m. (
            k₃,
            unbounded-sound S.nodes n part required g.empty r.fails s (some mid) g.end
                (copies-weaker S.nodes part (next true) r.empty g.empty r.fails m.3 required s (some mid)
                (subst (λ v. Copies S.nodes part (next true) r.empty r.fails required s v) y q.0))
                (λ x. Mem x m.0) e (λ x. quiet (q.1 (m.3 x))) (λ t z. m.2 t (inl (sym (some_is z)))) m.1,
          ))

  -- "a repetition neither": under skips it is not empty
  unbounded-good : (part required : ℕ) (s : State) (W : World) → S.nodes.at n ≡ Unbounded part required → Kept L W
      → Good L (repeat_unbounded S ask walking n part required s W) (Sound S.nodes n s)
  unfolding repeat_unbounded
  unbounded-good part required s W e k =
      then-good L (searched S ask walking n part s W) _ (λ u. Unit {0}) (Sound S.nodes n s) (searched-good walking part required s W e k)
      (λ u W₁ k₁ v. unbounded-copies part required s W₁ _ e (λ x. not-true S.nodes.skips x) k₁)

  -- the copies of a bounded repetition, which is empty only where no gap may stand or its most is 1 or less
  bounded-copies : (part required optional : ℕ) (s : State) (W : World) (empty : Bool) → S.nodes.at n ≡ Bounded part required optional
      → (empty ≡ true → (S.nodes.skips ≡ false) ⊎ (required + optional + 0 ≤ 1)) → Kept L W
      → Good L (and_then (steps ask walking part true starts required [] s empty false W)
      (λ r W₂. bounded_rest S ask walking part optional s r.empty r.fails W₂ r.end)) (Sound S.nodes n s)
  unfolding Linked StepsSound NoGaps
  bounded-copies part required optional s W empty e quiet k =
      then-good L (steps ask walking part true starts required [] s empty false W) _
      (StepsSound S.nodes R ask h walking part true empty false required s) (Sound S.nodes n s)
      (steps-sound S.nodes R ask h walking part true starts required [] s empty false W k tt) (λ r W₂ k₂ q. rest r W₂ k₂ q r.end refl)
    where
      rest : (r : Ran) (W₂ : World) → Kept L W₂ → StepsSound S.nodes R ask h walking part true empty false required s r
          → (mid : Maybe) → r.end ≡ mid → Good L (bounded_rest S ask walking part optional s r.empty r.fails W₂ mid) (Sound S.nodes n s)
      rest r W₂ k₂ q none y = (
        k₂,
        no-success S.nodes n s (restored S r.fails s) r.empty
            (bounded-sound S.nodes n part required r.empty r.fails s none none
            (subst (λ v. Copies S.nodes part (next true) r.empty r.fails required s v) y q.0)
            optional false e (λ x. quiet (q.1 x)) (λ t z. absurd (none-some t z))),
      )
      rest r W₂ k₂ q (some mid) y =
          then-good L (steps ask walking part false starts optional [] mid r.empty false W₂) _
          (StepsSound S.nodes R ask h walking part false r.empty false optional mid) (Sound S.nodes n s)
          (steps-sound S.nodes R ask h walking part false starts optional [] mid r.empty false W₂ k₂ tt)
          (λ g W₃ k₃ m. (
            k₃,
            bounded-sound S.nodes n part required g.empty r.fails s (some mid) g.end
                (copies-weaker S.nodes part (next true) r.empty g.empty r.fails m.1 required s (some mid)
                (subst (λ v. Copies S.nodes part (next true) r.empty r.fails required s v) y q.0))
                optional g.fails e (λ x. quiet (q.1 (m.1 x)))
                (λ t z. subst (λ x. Copies S.nodes part (next false) g.empty g.fails optional x g.end) (some_is z) m.0),
          ))

  -- "unless its most is 1 or less"
  bounded-good : (part required optional : ℕ) (s : State) (W : World) → S.nodes.at n ≡ Bounded part required optional → Kept L W
      → Good L (repeat_bounded S ask walking part required optional s W) (Sound S.nodes n s)
  unfolding repeat_bounded
  bounded-good part required optional s W e k =
      bounded-copies part required optional s W _ e (λ x. at_most_one (required + optional) S.nodes.skips (ltb (required + optional) 2) refl x) k

  kind-good : (kind : Kind) → S.nodes.at n ≡ kind → (s : State) (W : World) → Kept L W
      → Good L (step_kind S ask walking n kind s W) (Sound S.nodes n s)
  unfolding Keeps step_kind
  kind-good InPlace e s W k = (k, in_place-sound S.nodes n s e)
  kind-good Match e s W k = (k, match-sound S.nodes n s e)
  kind-good Peek e s W k = (k, peek-sound S.nodes n s e)
  kind-good PeekAll e s W k = (k, peek_all-sound S.nodes n s e)
  kind-good Pop e s W k = (k, pop-sound S.nodes n s e)
  kind-good PopAll e s W k = (k, pop_all-sound S.nodes n s e)
  kind-good Drop e s W k = (k, drop-sound S.nodes n s e)
  kind-good (Rule root) e s W k =
      good-weaker L (ask false root s W) (Sound S.nodes root s) (Sound S.nodes n s)
      (λ o so. rule-sound S.nodes n s root o e so) (h false root s W tt k)
  kind-good (NodeTag part) e s W k =
      good-weaker L (ask walking part s W) (Sound S.nodes part s) (Sound S.nodes n s)
      (λ o so. node_tag-sound S.nodes n s part o so e) (h walking part s W tt k)
  kind-good (PosPred part) e s W k = one-part part s W _ k (λ o so. pos_pred-sound S.nodes n s part o so e)
  kind-good (NegPred part) e s W k = one-part part s W _ k (λ o so. neg_pred-sound S.nodes n s part o so e)
  kind-good (Opt part) e s W k = one-part part s W _ k (λ o so. opt-sound S.nodes n s part o so e)
  kind-good (Push part) e s W k = one-part part s W _ k (λ o so. push-sound S.nodes n s part o so S.limit e)
  kind-good (PushLiteral len) e s W k = (k, push_literal-sound S.nodes n s S.limit len e)
  kind-good (Seq left right) e s W k =
      then-good L (ask walking left s W) _ (Sound S.nodes left s) (Sound S.nodes n s) (h walking left s W tt k)
      (λ x W₁ k₁ sx. rest x W₁ k₁ sx x.ok refl)
    where
      rest : (x : Outcome) (W₁ : World) → Kept L W₁ → Sound S.nodes left s x → (v : Maybe) → x.ok ≡ v
          → Good L (seq_rest S ask walking right s x W₁ v) (Sound S.nodes n s)
      rest x W₁ k₁ sx none y = (k₁, seq-sound S.nodes n s left right x never e sx (λ mid z. absurd (none-some mid (sym y ∙ z))))
      rest x W₁ k₁ sx (some mid) y =
          then-good L (ask walking right mid W₁) _ (Sound S.nodes right mid) (Sound S.nodes n s) (h walking right mid W₁ tt k₁)
          (λ o W₂ k₂ so. (k₂, seq-sound S.nodes n s left right x o e sx (λ t z. subst (λ u. Sound S.nodes right u o) (some_is (sym y ∙ z)) so)))
  kind-good (Choice left right) e s W k =
      then-good L (ask walking left s W) _ (Sound S.nodes left s) (Sound S.nodes n s) (h walking left s W tt k)
      (λ x W₁ k₁ sx. rest x W₁ k₁ sx (failed x.err s) refl)
    where
      rest : (x : Outcome) (W₁ : World) → Kept L W₁ → Sound S.nodes left s x → (v : Maybe) → failed x.err s ≡ v
          → Good L (choice_rest S ask walking right s x W₁ v) (Sound S.nodes n s)
      rest x W₁ k₁ sx none y = (k₁, choice-sound S.nodes n s left right x never e sx (λ f z. absurd (none-some f (sym y ∙ z))))
      rest x W₁ k₁ sx (some f) y =
          then-good L (ask walking right f W₁) _ (Sound S.nodes right f) (Sound S.nodes n s) (h walking right f W₁ tt k₁)
          (λ o W₂ k₂ so. (k₂, choice-sound S.nodes n s left right x o e sx (λ t z. subst (λ u. Sound S.nodes right u o) (some_is (sym y ∙ z)) so)))
  kind-good (Unbounded part required) e s W k = unbounded-good part required s W e k
  kind-good (Bounded part required optional) e s W k = bounded-good part required optional s W e k

  pub step-sound : (s : State) (W : World) → Kept L W → Good L (step S ask walking n s W) (Sound S.nodes n s)
  unfolding step
  step-sound s W k = kind-good (S.nodes.at n) refl s W k
