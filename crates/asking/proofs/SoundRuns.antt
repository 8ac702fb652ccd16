-- `steps`, `greedy` and `loops_forever` over sound answers: their copies are sound, and a loop that is found is one.
-- Assumes nothing.
use mathlib.Core.Path.{◌≡◌, refl, sym, subst}
use mathlib.Core.Bool.{Bool, true, false, ◌&&◌, ◌||◌, cond}
use mathlib.Core.List.{List, ◌∷◌}
use mathlib.Core.Logic.{◌⊎◌, inl, inr}
use mathlib.Core.Option.{Option, none, some}
use Prim.Native.Nat.{ℕ, zero, suc}
use Rattle.stack.specs.State.{State, fresh}
use Rattle.stack.specs.Covers.{Stack}
use Rattle.machine.specs.Lists.{Mem}
use Rattle.machine.specs.Kind.{Nodes}
use Rattle.machine.specs.Outcome.{Maybe, Outcome, is_some, joined, failed, still, exact}
use Rattle.machine.specs.Sound.{Covered, Sound}
use Rattle.machine.proofs.Parts.{joined-left, joined-right}
use Rattle.machine.proofs.Turns.{Copy, copy-weaker, Copies}
use Rattle.machine.proofs.Loops.{Loops}
use Rattle.asking.specs.World.{World, Ask}
use Rattle.asking.specs.Runs.{Ran, ran, place, next, steps_go, steps_at, steps_full, steps, ends, greedy_go, greedy_at, greedy_full, greedy, Search, loops, breaks, spent, any_same_top, loops_seen, loops_out, loops_go, loops_forever}
use Rattle.stack.proofs.Coverage.{and_left, and_right}
use Rattle.asking.proofs.Tests.{or_left, or_right, PlacedAt, place-says, any_same_top-says}
use Rattle.asking.proofs.Kept.{Law, Kept, Good, Keeps, then-good, good-weaker}
use Rattle.asking.proofs.Lasso.{Link, Linked, linked-weaker, lasso}

-- answers are sound; of reports, whatever is asked
abbrev pub sound_law : Nodes → (ℕ → State → Type 0) → Law
sound_law nodes R = record { from = λ s. Unit {0}; answers = Sound nodes; reported = R }

-- a copy's answer, in a run that it makes less empty and more failing
copy_of : (nodes : Nodes) (part : ℕ) (empty fails : Bool) (s : State) (o : Outcome) → Sound nodes part s o
    → Copy nodes part (empty && still o) (fails || is_some o.err) s o
copy_of nodes part empty fails s o h = record { sound = h; stays = and_right empty (still o); errs = or_right fails (is_some o.err) }

-- counted copies
module _ (nodes : Nodes) (R : ℕ → State → Type 0) (ask : Ask) (h : Keeps (sound_law nodes R) ask) (walking : Bool) (part : ℕ) where
  unfoldable pub StepsSound : Bool → Bool → Bool → ℕ → State → Ran → Type 0
  StepsSound required empty fails left s r =
      Copies nodes part (next required) r.empty r.fails left s r.end × (r.empty ≡ true → empty ≡ true) × (fails ≡ true → r.fails ≡ true)

  pub steps-sound : (required : Bool) (room left : ℕ) (trace : List State) (s : State) (empty fails : Bool) (W : World) → Kept (sound_law nodes R) W
      → Linked nodes part (next required) empty fails trace s
      → Good (sound_law nodes R) (steps ask walking part required room left trace s empty fails W) (StepsSound required empty fails left s)
  unfolding StepsSound Copies Keeps steps
  steps-sound required room zero trace s empty fails W k l = (k, (refl, (λ x. x), (λ x. x)))
  steps-sound required zero (suc left) trace s empty fails W k l = go (place s trace) refl
    where
      go : (v : Option ℕ) → place s trace ≡ v
          → Good (sound_law nodes R) (steps_full ask walking part trace s (suc left) empty fails W v) (StepsSound required empty fails (suc left) s)
      go none e = tt
      go (some i) e = (k, (lasso nodes part (next required) empty fails trace s (suc left) i l e, (λ x. x), (λ x. x)))
  steps-sound required (suc room) (suc left) trace s empty fails W k l = go (steps-sound required room left) (place s trace) refl
    where
      go : ((trace : List State) (s : State) (empty fails : Bool) (W : World) → Kept (sound_law nodes R) W → Linked nodes part (next required) empty fails trace s
          → Good (sound_law nodes R) (steps ask walking part required room left trace s empty fails W) (StepsSound required empty fails left s))
          → (v : Option ℕ) → place s trace ≡ v
          → Good (sound_law nodes R)
          (steps_at ask walking part required (λ tr t e f W₁. steps ask walking part required room left tr t e f W₁) trace s
          (suc left) empty fails W v)
          (StepsSound required empty fails (suc left) s)
      go ih (some i) e = (k, (lasso nodes part (next required) empty fails trace s (suc left) i l e, (λ x. x), (λ x. x)))
      go ih none e =
          then-good (sound_law nodes R) (ask walking part s W) _ (Sound nodes part s) (StepsSound required empty fails (suc left) s)
          (h walking part s W tt k)
          (λ o W₁ k₁ so. on o W₁ k₁ so (next required s o) refl)
        where
          on : (o : Outcome) (W₁ : World) → Kept (sound_law nodes R) W₁ → Sound nodes part s o → (v : Maybe) → next required s o ≡ v
              → Good (sound_law nodes R)
              (steps_go ask walking part
              (λ tr t e f W₁. steps ask walking part required room left tr t e f W₁) trace s o v empty fails W₁)
              (StepsSound required empty fails (suc left) s)
          on o W₁ k₁ so none e =
              (k₁, ((o, copy_of nodes part empty fails s o so, inl (e, refl)), and_left empty (still o), or_left fails (is_some o.err)))
          on o W₁ k₁ so (some t) e =
              good-weaker (sound_law nodes R) (steps ask walking part required room left (s ∷ trace) t (empty && still o) (fails || is_some o.err) W₁)
              (StepsSound required (empty && still o) (fails || is_some o.err) left t) (StepsSound required empty fails (suc left) s)
              (λ r q. (
                (
                  o,
                  copy-weaker nodes part (empty && still o) (fails || is_some o.err) r.empty r.fails s o q.1 q.2
                      (copy_of nodes part empty fails s o so),
                  inr (t, e, q.0),
                ),
                (λ x. and_left empty (still o) (q.1 x)),
                (λ x. q.2 (or_left fails (is_some o.err) x)),
              ))
              (ih (s ∷ trace) t (empty && still o) (fails || is_some o.err) W₁ k₁
              (unfold Linked Link in (
                (o, copy_of nodes part empty fails s o so, e),
                linked-weaker nodes part (next required) empty fails (empty && still o)
                    (fails || is_some o.err) (and_left empty (still o)) (or_left fails (is_some o.err)) trace s l,
              )))

-- greedy copies
module _ (ask : Ask) (walking : Bool) (part : ℕ) (first : Bool) (s : State) where
  ends-old : (e ok : Maybe) (list st : Stack) → Covered ok list st → Covered (ends first s e ok) list st
  ends-old none ok list st i = i
  ends-old (some e) ok list st i = joined-left ok (joined (failed (some e) s) (cond first none (some s))) list st i

  ends-new : (e ok : Maybe) (list st : Stack) → Covered (failed e s) list st → Covered (ends first s e ok) list st
  ends-new none ok list st i = absurd i
  ends-new (some e) ok list st i =
      joined-right ok (joined (failed (some e) s) (cond first none (some s))) list st
      (joined-left (failed (some e) s) (cond first none (some s)) list st i)

module _ (nodes : Nodes) (part : ℕ) where
  -- a start whose copy is sound, whose ends are covered, and whose next start is among the starts
  unfoldable pub StartOf : Bool → Maybe → List State → State → Type 0
  StartOf empty end starts s =
      (o : Outcome) × Copy nodes part empty true s o × ((list x : Stack) → Covered (failed o.err s) list x → Covered end list x)
      × ((o.ok ≡ none) ⊎ ((t : State) × (o.ok ≡ some t) × Mem t starts))

  start-weaker : (empty empty₁ : Bool) (end end₁ : Maybe) (starts starts₁ : List State) (s : State) → (empty₁ ≡ true → empty ≡ true)
      → ((list x : Stack) → Covered end list x → Covered end₁ list x) → ((t : State) → Mem t starts → Mem t starts₁)
      → StartOf empty end starts s → StartOf empty₁ end₁ starts₁ s
  unfolding StartOf
  start-weaker empty empty₁ end end₁ starts starts₁ s e f g h =
      (h.0, copy-weaker nodes part empty true empty₁ true s h.0 e (λ x. x) h.1, (λ list x i. f list x (h.2 list x i)), go h.3)
    where
      go : (h.0.ok ≡ none) ⊎ ((t : State) × (h.0.ok ≡ some t) × Mem t starts)
          → (h.0.ok ≡ none) ⊎ ((t : State) × (h.0.ok ≡ some t) × Mem t starts₁)
      go (inl x) = inl x
      go (inr x) = inr (x.0, x.1, g x.0 x.2)

  -- all starts of the run, those seen among them
  unfoldable pub GreedySound : Bool → List State → State → Ran → Type 0
  GreedySound empty seen s r =
      (starts : List State) × ((x : State) → Mem x starts → StartOf r.empty r.end starts x) × ((x : State) → Mem x (s ∷ seen) → Mem x starts)
      × (r.empty ≡ true → empty ≡ true)

  come-again : (s : State) (seen : List State) → Mem s seen → (t : State) → Mem t (s ∷ seen) → Mem t seen
  come-again s seen m t (inl e) = subst (λ x. Mem x seen) (sym e) m
  come-again s seen m t (inr k) = k

  closed-by : (empty : Bool) (end : Maybe) (seen : List State) (s : State) → Mem s seen → ((x : State) → Mem x seen → StartOf empty end (s ∷ seen) x)
      → GreedySound empty seen s (ran end empty false)
  unfolding GreedySound
  closed-by empty end seen s m H = (
    seen,
    (λ x k. start-weaker empty empty end end (s ∷ seen) seen x (λ y. y) (λ list y i. i) (come-again s seen m)
        (H x k)),
    come-again s seen m,
    (λ y. y),
  )

module _ (nodes : Nodes) (R : ℕ → State → Type 0) (ask : Ask) (h : Keeps (sound_law nodes R) ask) (walking : Bool) (part : ℕ) where
  pub greedy-sound : (room : ℕ) (seen : List State) (s : State) (first empty : Bool) (ok : Maybe) (W : World) → Kept (sound_law nodes R) W
      → ((x : State) → Mem x seen → StartOf nodes part empty ok (s ∷ seen) x)
      → Good (sound_law nodes R) (greedy ask walking part room seen s first empty ok W) (GreedySound nodes part empty seen s)
  unfolding Keeps greedy
  greedy-sound zero seen s first empty ok W k H = go (place s seen) (place-says s seen)
    where
      go : (v : Option ℕ) → PlacedAt s seen v
          → Good (sound_law nodes R) (greedy_full ask walking part empty ok W v) (GreedySound nodes part empty seen s)
      go none p = tt
      go (some i) p = (k, closed-by nodes part empty ok seen s p.2 H)
  greedy-sound (suc room) seen s first empty ok W k H = go (greedy-sound room) (place s seen) (place-says s seen)
    where
      go : ((seen : List State) (s : State) (first empty : Bool) (ok : Maybe) (W : World) → Kept (sound_law nodes R) W → ((x : State) → Mem x seen → StartOf nodes part empty ok (s ∷ seen) x)
          → Good (sound_law nodes R) (greedy ask walking part room seen s first empty ok W) (GreedySound nodes part empty seen s))
          → (v : Option ℕ) → PlacedAt s seen v
          → Good (sound_law nodes R)
          (greedy_at ask walking part (λ sn t e v W₁. greedy ask walking part room sn t false e v W₁) seen s first empty ok W v)
          (GreedySound nodes part empty seen s)
      go ih (some i) p = (k, closed-by nodes part empty ok seen s p.2 H)
      go ih none p =
          then-good (sound_law nodes R) (ask walking part s W) _ (Sound nodes part s) (GreedySound nodes part empty seen s) (h walking part s W tt k)
          (λ o W₁ k₁ so. on o W₁ k₁ so o.ok refl)
        where
          end : Outcome → Maybe
          end o = ends first s o.err ok

          each : (o : Outcome) → Sound nodes part s o → (starts : List State) → ((t : State) → Mem t (s ∷ seen) → Mem t starts)
              → (o.ok ≡ none) ⊎ ((t : State) × (o.ok ≡ some t) × Mem t starts)
              → (x : State) → Mem x (s ∷ seen) → StartOf nodes part (empty && still o) (end o) starts x
          each o so starts g n x (inl e) =
              subst (λ y. StartOf nodes part (empty && still o) (end o) starts y) (sym e)
              (unfold StartOf in
              (o, record { sound = so; stays = and_right empty (still o); errs = λ y. refl }, ends-new ask walking part first s o.err ok, n))
          each o so starts g n x (inr m) =
              start-weaker nodes part empty (empty && still o) ok (end o) (s ∷ seen) starts x (and_left empty (still o))
              (ends-old ask walking part first s o.err ok) g (H x m)

          on : (o : Outcome) (W₁ : World) → Kept (sound_law nodes R) W₁ → Sound nodes part s o → (u : Maybe) → o.ok ≡ u
              → Good (sound_law nodes R)
              (greedy_go ask walking part (λ sn t e v W₁. greedy ask walking part room sn t false e v W₁) seen s empty o u (end o) W₁)
              (GreedySound nodes part empty seen s)
          on o W₁ k₁ so none e =
              (k₁, unfold GreedySound in (s ∷ seen, each o so (s ∷ seen) (λ t m. m) (inl e), (λ x m. m), and_left empty (still o)))
          on o W₁ k₁ so (some t) e =
              good-weaker (sound_law nodes R) (greedy ask walking part room (s ∷ seen) t false (empty && still o) (end o) W₁)
              (GreedySound nodes part (empty && still o) (s ∷ seen) t) (GreedySound nodes part empty seen s)
              (λ r q. unfold GreedySound in (q.0, q.1, (λ x m. q.2 x (inr m)), (λ x. and_left empty (still o) (q.3 x))))
              (ih (s ∷ seen) t false (empty && still o) (end o) W₁ k₁ (each o so (t ∷ s ∷ seen) (λ y m. inr m) (inr (t, e, inl refl))))

-- the search for a loop
module _ (nodes : Nodes) (R : ℕ → State → Type 0) (ask : Ask) (h : Keeps (sound_law nodes R) ask) (part : ℕ) where
  -- what an answer of the search says
  abbrev pub Found : ℕ → State → List State → Search → Type 0
  Found left cur past loops = Loops nodes part left cur past
  Found left cur past breaks = Unit {0}
  Found left cur past spent = Unit {0}

  later-found : (left left₁ : ℕ) (cur cur₁ : State) (past past₁ : List State) → (Loops nodes part left cur past → Loops nodes part left₁ cur₁ past₁)
      → (found : Search) → Found left cur past found → Found left₁ cur₁ past₁ found
  later-found left left₁ cur cur₁ past past₁ f loops q = f q
  later-found left left₁ cur cur₁ past past₁ f breaks q = tt
  later-found left left₁ cur cur₁ past past₁ f spent q = tt

  pub loops_forever-sound : (left : ℕ) (cur : State) (past : List State) (W : World) → Kept (sound_law nodes R) W
      → Good (sound_law nodes R) (loops_forever ask part left cur past W) (Found left cur past)
  unfolding Keeps Loops loops_forever
  loops_forever-sound zero cur past W k = (k, tt)
  loops_forever-sound (suc left) cur past W k =
      then-good (sound_law nodes R) (ask false part (fresh cur) W) _ (Sound nodes part (fresh cur)) (Found (suc left) cur past)
      (h false part (fresh cur) W tt k)
      (λ o W₁ k₁ so. go (loops_forever-sound left) o W₁ k₁ so (exact o) refl)
    where
      go : ((cur : State) (past : List State) (W : World) → Kept (sound_law nodes R) W → Good (sound_law nodes R) (loops_forever ask part left cur past W) (Found left cur past))
          → (o : Outcome) (W₁ : World) → Kept (sound_law nodes R) W₁ → Sound nodes part (fresh cur) o → (v : Maybe) → exact o ≡ v
          → Good (sound_law nodes R) (loops_go ask part (λ c p W₂. loops_forever ask part left c p W₂) cur past W₁ v) (Found (suc left) cur past)
      go ih o W₁ k₁ so none e = (k₁, tt)
      go ih o W₁ k₁ so (some out) e = at_out out.intact refl
        where
          goes_on : (past₁ : List State) → (Loops nodes part left out past₁ → Loops nodes part (suc left) cur past)
              → Good (sound_law nodes R) (loops_forever ask part left out past₁ W₁) (Found (suc left) cur past)
          goes_on past₁ f =
              good-weaker (sound_law nodes R) (loops_forever ask part left out past₁ W₁) (Found left out past₁) (Found (suc left) cur past)
              (later-found left (suc left) out cur past₁ past f) (ih out past₁ W₁ k₁)

          at_seen : out.intact ≡ true → (t : Bool) → any_same_top out (cur ∷ past) ≡ t
              → Good (sound_law nodes R) (loops_seen ask part (λ c p W₂. loops_forever ask part left c p W₂) cur past out W₁ t) (Found (suc left) cur past)
          at_seen i true t = (k₁, (o, out, so, e, inl (i, any_same_top-says out (cur ∷ past) t)))
          at_seen i false t = goes_on _ (λ q. (o, out, so, e, inr (inl (i, q))))

          at_out : (t : Bool) → out.intact ≡ t
              → Good (sound_law nodes R) (loops_out ask part (λ c p W₂. loops_forever ask part left c p W₂) cur past out W₁ t) (Found (suc left) cur past)
          at_out true i = at_seen i (any_same_top out (cur ∷ past)) refl
          at_out false i = goes_on _ (λ q. (o, out, so, e, inr (inr (i, q))))
