-- From a state within the limit, every answer's states, every remembered answer's and every report's are within it. Assumes nothing.
use mathlib.Core.Bool.{Bool, true, false, ◌&&◌, not, cond}
use mathlib.Core.List.{List, [], ◌∷◌}
use mathlib.Core.Option.{Option, none, some}
use Prim.Native.Nat.{ℕ, zero, suc}
use lib.Dec.{ltb}
use lib.ListN.{length, get_or}
use Rattle.stack.specs.State.{State, Within, popped_one, fresh}
use Rattle.stack.proofs.Formed.{popped_one-within, fresh-within}
use Rattle.machine.specs.Kind.{Kind, InPlace, Match, Peek, PeekAll, Pop, PopAll, Drop, Rule, NodeTag, PosPred, NegPred, Opt, Push, PushLiteral, Seq, Choice, Unbounded, Bounded}
use Rattle.machine.specs.Outcome.{Maybe, Outcome, is_some, joined, failed, exact, never}
use Rattle.machine.specs.Sound.{MaybeWithin, OutcomeWithin}
use Rattle.machine.proofs.Limits.{joined-within, failed-within, some-if-within, of_top-within, of_peek_all-within, of_pop_all-within, of_drop-within, of_pos_pred-within, of_neg_pred-within, of_seq-within, of_choice-within, of_opt-within, of_push-within, of_push_literal-within}
use Rattle.asking.specs.World.{Setup, World, given, and_then, Ask, has_node}
use Rattle.asking.specs.Runs.{Ran, place, next, steps_go, steps_at, steps_full, steps, ends, greedy_go, greedy_at, greedy_full, greedy, Search, loops, breaks, spent, any_same_top, loops_seen, loops_out, loops_go, loops_forever}
use Rattle.asking.specs.Ask.{starts, search_steps, report_if, report_due, report, searched, unbounded_rest, bounded_rest, repeat_unbounded, repeat_bounded, seq_rest, choice_rest, step_kind, step}
use Rattle.asking.proofs.Kept.{Law, Kept, Good, Keeps, then-good, each-added}

abbrev pub limit_law : ℕ → Law
limit_law limit = record { from = Within limit; answers = λ n s o. OutcomeWithin limit o; reported = λ n s. Within limit s }

-- all states of a trace
abbrev pub AllWithin : ℕ → List State → Type 0
AllWithin limit [] = Unit {0}
AllWithin limit (s ∷ trace) = Within limit s × AllWithin limit trace

get_or-within : (limit : ℕ) (trace : List State) (i : ℕ) (s : State) → AllWithin limit trace → Within limit s → Within limit (get_or trace i s)
get_or-within limit [] i s h k = k
get_or-within limit (t ∷ trace) zero s h k = h.0
get_or-within limit (t ∷ trace) (suc i) s h k = get_or-within limit trace i s h.1 k

next-within : (limit : ℕ) (required : Bool) (s : State) (o : Outcome) → OutcomeWithin limit o → MaybeWithin limit (next required s o)
next-within limit true s o h = h.0
next-within limit false s o h = joined-within limit o.ok (failed o.err s) h.0 (failed-within limit o.err s h.1)

exact-within : (limit : ℕ) (o : Outcome) → OutcomeWithin limit o → MaybeWithin limit (exact o)
exact-within limit o h = go (not (is_some o.err) && o.empty)
  where
    go : (t : Bool) → MaybeWithin limit (cond t o.ok none)
    go true = h.0
    go false = tt

ends-within : (limit : ℕ) (ask : Ask) (walking : Bool) (part : ℕ) (first : Bool) (s : State) (e ok : Maybe) → Within limit s
    → MaybeWithin limit e → MaybeWithin limit ok
    → MaybeWithin limit (ends first s e ok)
ends-within limit ask walking part first s none ok h i k = k
ends-within limit ask walking part first s (some e) ok h i k =
    joined-within limit ok (joined (failed (some e) s) (cond first none (some s))) k
    (joined-within limit (failed (some e) s) (cond first none (some s)) (failed-within limit (some e) s i) (started first))
  where
    started : (t : Bool) → MaybeWithin limit (cond t none (some s))
    started true = tt
    started false = h

module _ (limit : ℕ) (ask : Ask) (h : Keeps (limit_law limit) ask) where
  abbrev L : Law
  L = limit_law limit

  abbrev EndWithin : Ran → Type 0
  EndWithin r = MaybeWithin limit r.end

  pub steps-within : (walking : Bool) (part : ℕ) (required : Bool) (room left : ℕ) (trace : List State) (s : State) (empty fails : Bool) (W : World)
      → Within limit s → AllWithin limit trace → Kept L W → Good L (steps ask walking part required room left trace s empty fails W) EndWithin
  unfolding Keeps steps
  steps-within walking part required room zero trace s empty fails W i l k = (k, i)
  steps-within walking part required zero (suc left) trace s empty fails W i l k = go (place s trace)
    where
      go : (v : Option ℕ) → Good L (steps_full ask walking part trace s (suc left) empty fails W v) EndWithin
      go none = tt
      go (some j) = (k, get_or-within limit trace _ s l i)
  steps-within walking part required (suc room) (suc left) trace s empty fails W i l k = go (steps-within walking part required room left) (place s trace)
    where
      go : ((trace : List State) (s : State) (empty fails : Bool) (W : World) → Within limit s → AllWithin limit trace → Kept L W
          → Good L (steps ask walking part required room left trace s empty fails W) EndWithin)
          → (v : Option ℕ)
          → Good L (steps_at ask walking part required (λ tr t e f W₁. steps ask walking part required room left tr t e f W₁) trace s
          (suc left) empty fails W v) EndWithin
      go ih (some j) = (k, get_or-within limit trace _ s l i)
      go ih none =
          then-good L (ask walking part s W) _ (OutcomeWithin limit) EndWithin (h walking part s W i k)
          (λ o W₁ k₁ q. on o W₁ k₁ (next required s o) (next-within limit required s o q))
        where
          on : (o : Outcome) (W₁ : World) → Kept L W₁ → (v : Maybe) → MaybeWithin limit v
              → Good L (steps_go ask walking part
              (λ tr t e f W₁. steps ask walking part required room left tr t e f W₁) trace s o v empty fails W₁) EndWithin
          on o W₁ k₁ none q = (k₁, tt)
          on o W₁ k₁ (some t) q = ih (s ∷ trace) t _ _ W₁ q (i, l) k₁

  pub greedy-within : (walking : Bool) (part room : ℕ) (seen : List State) (s : State) (first empty : Bool) (ok : Maybe) (W : World)
      → Within limit s → MaybeWithin limit ok → Kept L W → Good L (greedy ask walking part room seen s first empty ok W) EndWithin
  unfolding Keeps greedy
  greedy-within walking part zero seen s first empty ok W i m k = go (place s seen)
    where
      go : (v : Option ℕ) → Good L (greedy_full ask walking part empty ok W v) EndWithin
      go none = tt
      go (some j) = (k, m)
  greedy-within walking part (suc room) seen s first empty ok W i m k = go (greedy-within walking part room) (place s seen)
    where
      go : ((seen : List State) (s : State) (first empty : Bool) (ok : Maybe) (W : World) → Within limit s → MaybeWithin limit ok → Kept L W
          → Good L (greedy ask walking part room seen s first empty ok W) EndWithin)
          → (v : Option ℕ)
          → Good L (greedy_at ask walking part (λ sn t e v W₁. greedy ask walking part room sn t false e v W₁) seen s first empty ok W v) EndWithin
      go ih (some j) = (k, m)
      go ih none =
          then-good L (ask walking part s W) _ (OutcomeWithin limit) EndWithin (h walking part s W i k)
          (λ o W₁ k₁ q. on o W₁ k₁ o.ok q.0 (ends first s o.err ok)
          (ends-within limit ask walking part first s o.err ok i q.1 m))
        where
          on : (o : Outcome) (W₁ : World) → Kept L W₁ → (u : Maybe) → MaybeWithin limit u → (v : Maybe) → MaybeWithin limit v
              → Good L (greedy_go ask walking part (λ sn t e v W₁. greedy ask walking part room sn t false e v W₁) seen s empty o u v W₁) EndWithin
          on o W₁ k₁ none x v y = (k₁, y)
          on o W₁ k₁ (some t) x v y = ih (s ∷ seen) t false _ v W₁ x y k₁

  pub loops_forever-within : (part left : ℕ) (cur : State) (past : List State) (W : World) → Within limit cur → Kept L W
      → Good L (loops_forever ask part left cur past W) (λ found. Unit {0})
  unfolding Keeps loops_forever
  loops_forever-within part zero cur past W i k = (k, tt)
  loops_forever-within part (suc left) cur past W i k =
      then-good L (ask false part (fresh cur) W) _ (OutcomeWithin limit) (λ found. Unit {0}) (h false part (fresh cur) W (fresh-within limit cur i) k)
      (λ o W₁ k₁ q. go (loops_forever-within part left) W₁ k₁ (exact o) (exact-within limit o q))
    where
      go : ((cur : State) (past : List State) (W : World) → Within limit cur → Kept L W → Good L (loops_forever ask part left cur past W) (λ found. Unit {0}))
          → (W₁ : World) → Kept L W₁ → (v : Maybe) → MaybeWithin limit v
          → Good L (loops_go ask part (λ c p W₂. loops_forever ask part left c p W₂) cur past W₁ v) (λ found. Unit {0})
      go ih W₁ k₁ none q = (k₁, tt)
      go ih W₁ k₁ (some out) q = at_out out.intact
        where
          at_seen : (t : Bool) → Good L (loops_seen ask part (λ c p W₂. loops_forever ask part left c p W₂) cur past out W₁ t) (λ found. Unit {0})
          at_seen true = (k₁, tt)
          at_seen false = ih out (cur ∷ past) W₁ q k₁

          at_out : (t : Bool) → Good L (loops_out ask part (λ c p W₂. loops_forever ask part left c p W₂) cur past out W₁ t) (λ found. Unit {0})
          at_out true = at_seen (any_same_top out (cur ∷ past))
          at_out false = ih out _ W₁ q k₁

module _ (S : Setup) (ask : Ask) (h : Keeps (limit_law S.limit) ask) (walking : Bool) (n : ℕ) (s : State) (i : Within S.limit s) where
  abbrev limit : ℕ
  limit = S.limit

  one-part : (part : ℕ) (W : World) (f : Outcome → Outcome) → Kept (limit_law limit) W
      → ((o : Outcome) → OutcomeWithin limit o → OutcomeWithin limit (f o))
      → Good (limit_law limit) (and_then (ask walking part s W) (λ o W₁. given (f o) W₁)) (OutcomeWithin limit)
  unfolding Keeps
  one-part part W f k g =
      then-good (limit_law limit) (ask walking part s W) (λ o W₁. given (f o) W₁) (OutcomeWithin limit) (OutcomeWithin limit)
      (h walking part s W i k) (λ o W₁ k₁ q. (k₁, g o q))

  report-within : (part : ℕ) (W : World) → Kept (limit_law limit) W → (found : Search)
      → Good (limit_law limit) (report S n part s W found) (λ u. Unit {0})
  report-within part W k breaks = (k, tt)
  report-within part W k spent = (k, tt)
  report-within part W k loops = due (not (S.held part) && not (has_node n W.reports))
    where
      free : (t : Bool) → Good (limit_law limit) (report_if S n s W t) (λ u. Unit {0})
      free true = ((k.0, each-added (λ m t. Within limit t) W.reports n s k.1 i), tt)
      free false = tt

      due : (t : Bool) → Good (limit_law limit) (report_due S n s W t) (λ u. Unit {0})
      due false = (k, tt)
      due true = free (ltb (length W.reports) S.report_places)

  searched-within : (walking : Bool) (part : ℕ) (W : World) → Kept (limit_law limit) W
      → Good (limit_law limit) (searched S ask walking n part s W) (λ u. Unit {0})
  searched-within false part W k = (k, tt)
  searched-within true part W k =
      then-good (limit_law limit) (loops_forever ask part search_steps s [] W) _ (λ found. Unit {0}) (λ u. Unit {0})
      (loops_forever-within limit ask h part search_steps s [] W i k)
      (λ found W₁ k₁ q. report-within part W₁ k₁ found)

  unbounded-copies : (part required : ℕ) (W : World) (empty : Bool) → Kept (limit_law limit) W
      → Good (limit_law limit)
      (and_then (steps ask walking part true starts required [] s empty false W)
      (λ r W₂. unbounded_rest S ask walking part s r.empty r.fails W₂ r.end))
      (OutcomeWithin limit)
  unbounded-copies part required W empty k =
      then-good (limit_law limit) (steps ask walking part true starts required [] s empty false W) _ (λ r. MaybeWithin limit r.end) (OutcomeWithin limit)
      (steps-within limit ask h walking part true starts required [] s empty false W i tt k) (λ r W₂ k₂ q. rest r W₂ k₂ r.end q)
    where
      rest : (r : Ran) (W₂ : World) → Kept (limit_law limit) W₂ → (mid : Maybe) → MaybeWithin limit mid
          → Good (limit_law limit) (unbounded_rest S ask walking part s r.empty r.fails W₂ mid) (OutcomeWithin limit)
      rest r W₂ k₂ none q = (k₂, (tt, some-if-within limit r.fails s i))
      rest r W₂ k₂ (some mid) q =
          then-good (limit_law limit) (greedy ask walking part starts [] mid true r.empty none W₂) _
          (λ g. MaybeWithin limit g.end) (OutcomeWithin limit)
          (greedy-within limit ask h walking part starts [] mid true r.empty none W₂ q tt k₂)
          (λ g W₃ k₃ m. (k₃, (m, some-if-within limit r.fails s i)))

  unbounded-within : (part required : ℕ) (W : World) → Kept (limit_law limit) W
      → Good (limit_law limit) (repeat_unbounded S ask walking n part required s W) (OutcomeWithin limit)
  unfolding repeat_unbounded
  unbounded-within part required W k =
      then-good (limit_law limit) (searched S ask walking n part s W) _ (λ u. Unit {0}) (OutcomeWithin limit) (searched-within walking part W k)
      (λ u W₁ k₁ v. unbounded-copies part required W₁ _ k₁)

  bounded-copies : (part required optional : ℕ) (W : World) (empty : Bool) → Kept (limit_law limit) W
      → Good (limit_law limit)
      (and_then (steps ask walking part true starts required [] s empty false W)
      (λ r W₂. bounded_rest S ask walking part optional s r.empty r.fails W₂ r.end))
      (OutcomeWithin limit)
  bounded-copies part required optional W empty k =
      then-good (limit_law limit) (steps ask walking part true starts required [] s empty false W) _ (λ r. MaybeWithin limit r.end) (OutcomeWithin limit)
      (steps-within limit ask h walking part true starts required [] s empty false W i tt k) (λ r W₂ k₂ q. rest r W₂ k₂ r.end q)
    where
      rest : (r : Ran) (W₂ : World) → Kept (limit_law limit) W₂ → (mid : Maybe) → MaybeWithin limit mid
          → Good (limit_law limit) (bounded_rest S ask walking part optional s r.empty r.fails W₂ mid) (OutcomeWithin limit)
      rest r W₂ k₂ none q = (k₂, (tt, some-if-within limit r.fails s i))
      rest r W₂ k₂ (some mid) q =
          then-good (limit_law limit) (steps ask walking part false starts optional [] mid r.empty false W₂) _
          (λ g. MaybeWithin limit g.end) (OutcomeWithin limit)
          (steps-within limit ask h walking part false starts optional [] mid r.empty false W₂ q tt k₂)
          (λ g W₃ k₃ m. (k₃, (m, some-if-within limit r.fails s i)))

  bounded-within : (part required optional : ℕ) (W : World) → Kept (limit_law limit) W
      → Good (limit_law limit) (repeat_bounded S ask walking part required optional s W) (OutcomeWithin limit)
  unfolding repeat_bounded
  bounded-within part required optional W k = bounded-copies part required optional W _ k

  kind-within : (kind : Kind) (W : World) → Kept (limit_law limit) W → Good (limit_law limit) (step_kind S ask walking n kind s W) (OutcomeWithin limit)
  unfolding Keeps step_kind
  kind-within InPlace W k = (k, (i, tt))
  kind-within Match W k = (k, (i, i))
  kind-within Peek W k = (k, of_top-within limit s i s i)
  kind-within PeekAll W k = (k, of_peek_all-within limit s i)
  kind-within Pop W k = (k, of_top-within limit s i (popped_one s) (popped_one-within limit s i))
  kind-within PopAll W k = (k, of_pop_all-within limit s i)
  kind-within Drop W k = (k, of_drop-within limit s i)
  kind-within (Rule root) W k = h false root s W i k
  kind-within (NodeTag part) W k = h walking part s W i k
  kind-within (PosPred part) W k = one-part part W _ k (λ o q. of_pos_pred-within limit s i o)
  kind-within (NegPred part) W k = one-part part W _ k (λ o q. of_neg_pred-within limit s i o)
  kind-within (Opt part) W k = one-part part W _ k (λ o q. of_opt-within limit s o q)
  kind-within (Push part) W k = one-part part W _ k (λ o q. of_push-within limit o q)
  kind-within (PushLiteral len) W k = (k, of_push_literal-within limit len s)
  kind-within (Seq left right) W k =
      then-good (limit_law limit) (ask walking left s W) _ (OutcomeWithin limit) (OutcomeWithin limit) (h walking left s W i k)
      (λ l W₁ k₁ q. rest l W₁ k₁ l.ok q.0)
    where
      rest : (l : Outcome) (W₁ : World) → Kept (limit_law limit) W₁ → (v : Maybe) → MaybeWithin limit v
          → Good (limit_law limit) (seq_rest S ask walking right s l W₁ v) (OutcomeWithin limit)
      rest l W₁ k₁ none q = (k₁, of_seq-within limit s i S.nodes.skips l never (tt, tt))
      rest l W₁ k₁ (some mid) q =
          then-good (limit_law limit) (ask walking right mid W₁) _ (OutcomeWithin limit) (OutcomeWithin limit) (h walking right mid W₁ q k₁)
          (λ r W₂ k₂ m. (k₂, of_seq-within limit s i S.nodes.skips l r m))
  kind-within (Choice left right) W k =
      then-good (limit_law limit) (ask walking left s W) _ (OutcomeWithin limit) (OutcomeWithin limit) (h walking left s W i k)
      (λ l W₁ k₁ q. rest l q W₁ k₁ (failed l.err s) (failed-within limit l.err s q.1))
    where
      rest : (l : Outcome) → OutcomeWithin limit l → (W₁ : World) → Kept (limit_law limit) W₁ → (v : Maybe) → MaybeWithin limit v
          → Good (limit_law limit) (choice_rest S ask walking right s l W₁ v) (OutcomeWithin limit)
      rest l p W₁ k₁ none q = (k₁, of_choice-within limit s l never p (tt, tt))
      rest l p W₁ k₁ (some f) q =
          then-good (limit_law limit) (ask walking right f W₁) _ (OutcomeWithin limit) (OutcomeWithin limit) (h walking right f W₁ q k₁)
          (λ r W₂ k₂ m. (k₂, of_choice-within limit s l r p m))
  kind-within (Unbounded part required) W k = unbounded-within part required W k
  kind-within (Bounded part required optional) W k = bounded-within part required optional W k

  pub step-within : (W : World) → Kept (limit_law limit) W → Good (limit_law limit) (step S ask walking n s W) (OutcomeWithin limit)
  unfolding step
  step-within W k = kind-within (S.nodes.at n) W k
