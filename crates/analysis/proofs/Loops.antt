-- The loops of `steps`, `greedy` and `loops_forever`: the question that was put has come to the one that is left. Assumes nothing.
use Rattle.std.specs.Prelude.{Some, None, Option, Result, Ok, Err}
use Rattle.std.specs.Option as Std
use mathlib.Core.Path.{◌≡◌, refl, sym, ap, subst, ◌∙◌}
use mathlib.Core.Bool.{Bool, true, false, ◌&&◌, ◌||◌, cond}
use mathlib.Core.List.{List, [], ◌∷◌}
use mathlib.Core.Option as Math
use mathlib.Core.Option.{none, some}
use Prim.Native.Nat.{ℕ, zero, suc, ◌-◌, ◌<◌, ◌≤◌}
use native.Mathlib.Omega.{arith}
use lib.ListN.{length}
use Rattle.stack.specs.declared.AbsStack.{AbsStack}
use Rattle.stack.specs.State.{State, max_len, fresh}
use Rattle.stack.specs.Number.{number_of, state_at}
use Rattle.stack.specs.Promise.{state_of, WellFormed, Is}
use Rattle.stack.proofs.Numbers.{state_at-number_of}
use Rattle.image.specs.declared.refusal.Refusal.{Refusal}
use Rattle.image.specs.declared.refusal.Refusal.TheVariants.{ManyStarts}
use Rattle.machine.specs.Outcome as O
use Rattle.machine.specs.Outcome.{Outcome, still, exact}
use Rattle.asking.specs.World.{Setup, World, Answer, given, and_then, same_state}
use Rattle.asking.specs.Runs as R
use Rattle.asking.specs.Runs.{ran, one_more, place, read_off, next, ends, steps_go, steps, greedy_go, greedy, Search, loops, breaks, spent, any_same_top, loops_seen, loops_out, loops_go, loops_forever}
use Rattle.asking.specs.Ask.{visit, starts, search_steps}
use Rattle.outcomes.specs.declared.Outcome as Code
use Rattle.outcomes.specs.Promise.{maybe_of, outcome_of, FormedMaybe, IsMaybe, IsOutcome}
use Rattle.outcomes.proofs.Within.{state-within}
use Rattle.starts.specs.declared.Starts.{Starts}
use Rattle.starts.specs.Promise.{newest_first, starts_of, Numbered, Begun, More, place_of}
use Rattle.standing.specs.Stands.{Lent}
use Rattle.standing.specs.Answers.{setup_for}
use Rattle.standing.proofs.RunSteps.{steps-none, steps_back, steps-full, steps-new, greedy-back, greedy-full, greedy-new, loops-spent, loops-step}
use Rattle.turns.specs.declared.Ran.{Ran}
use Rattle.turns.specs.Promise.{IsRan, Ended, HuntedIf, HuntedOn}
use Rattle.analysis.specs.declared.Pass.{Pass}
use Rattle.analysis.specs.declared.Down.{Down}
use Rattle.analysis.specs.Methods.{SamePass, Ready, Answers, IsLoop}
use Rattle.analysis.proofs.On.{state-formed, same_self, same-trans, Comes, comes-start, comes-answers, comes-on, comes-to, answers-by, on_err, ready-on, outcome-formed, outcome_on, outcome-comes, answers-now, refuses-now}

-- a start that was added is the state that was packed
pub added : {run run' : Starts} {at : AbsStack} {x : ℕ} → WellFormed max_len at → x ≡ number_of (state_of at) → More run x run' → starts_of run' ≡ state_of at ∷ starts_of run
added {run} {run'} {at} {x} w e m = m.starts ∙ ap (λ (s : State). s ∷ starts_of run) (ap state_at e ∙ state_at-number_of (state_of at) (state-within at w))

-- a state that is found among the starts is one of them
place_inside : (s : State) (trace : List State) (i : ℕ) → place s trace ≡ some i → i < length trace
place_inside s [] i e = absurd (let z : ◌≡◌ {A = ℕ} 0 1 = cc in omega arith)
place_inside s (t ∷ trace) i e = by (same_state s t) (λ j. place_inside s trace j) e
  where
    more : (m : Math.Option ℕ) → ((j : ℕ) → m ≡ some j → j < length trace) → one_more m ≡ some i → i < suc (length trace)
    more none l y = absurd (let z : ◌≡◌ {A = ℕ} 0 1 = cc in omega arith)
    more (some j) l y = let w : suc j ≡ i = cc in let k = l j refl in omega arith

    by : (b : Bool) → ((j : ℕ) → place s trace ≡ some j → j < length trace) → cond b (some 0) (one_more (place s trace)) ≡ some i → i < suc (length trace)
    by true l y = let w : 0 ≡ i = cc in omega arith
    by false l y = more (place s trace) l y

newest-long : (states : List ℕ) (n : ℕ) → length (newest_first states n) ≡ n
unfolding newest_first
newest-long states zero = refl
newest-long states (suc n) = ap suc (newest-long states n)

-- what looking for a packed state says of the state
module _ (run : Starts) {at : AbsStack} {x : ℕ} {spot : Option ℕ} (w : WellFormed max_len at) (packed : x ≡ number_of (state_of at)) (found : place_of spot ≡ place (state_at x) (starts_of run)) where
  pub at_place : {y : Option ℕ} → spot ≡ y → place (state_of at) (starts_of run) ≡ place_of y
  at_place e =
      ap (λ (s : State). place s (starts_of run)) (sym (ap state_at packed ∙ state_at-number_of (state_of at) (state-within at w))) ∙ sym found ∙ ap place_of e

  pub back_inside : {i : ℕ} → spot ≡ Some i → i < run.count
  back_inside {i} e = let l = place_inside (state_of at) (starts_of run) i (at_place e) in omega (arith, newest-long run.states run.count)

-- whether there is a state, in code and in the definition
pub some-is : (m : Option AbsStack) → Std.is_some m ≡ O.is_some (maybe_of m)
some-is None = refl
some-is (Some s) = refl

-- whether a start was found
pub found-some : (m : Option ℕ) {b : Bool} → b ≡ Std.is_some m → b ≡ true → (i : ℕ) × (m ≡ Some i)
found-some None e y = absurd (let z : false ≡ true = sym e ∙ y in let k : ◌≡◌ {A = ℕ} 0 1 = cc in omega arith)
found-some (Some i) e y = (i, refl)

pub found-none : (m : Option ℕ) {b : Bool} → b ≡ Std.is_some m → b ≡ false → m ≡ None
found-none None e y = refl
found-none (Some i) e y = absurd (let z : true ≡ false = sym e ∙ y in let k : ◌≡◌ {A = ℕ} 0 1 = cc in omega arith)

-- what every loop keeps: the pass is the same and ready, the starts are numbered, and the state is well formed
pub record Kept (p₀ p : Pass) (run : Starts) (at : AbsStack) : Type 0 where
  pub same : SamePass p₀ p
  pub ready : Ready p
  pub numbered : Numbered run
  pub few : run.count ≤ starts
  pub state : WellFormed max_len at

kept-start : {p : Pass} {run : Starts} {s : AbsStack} → Ready p → WellFormed max_len s → Begun run → Kept p p run s
kept-start {p} {run} h w b = record { same = same_self p; ready = h; numbered = b.numbered; few = omega (arith, b.none); state = w }

-- a bounded run
module _ (p₀ : Pass) (d : Down) (part : ℕ) (required : Bool) (copies : ℕ) (s : AbsStack) (empty : Bool) where
  abbrev pub steps_from : ℕ → ℕ → List State → State → Bool → Bool → Setup → World → Answer R.Ran
  steps_from room left trace at e f S W = steps (visit S d.left) d.walking part required room left trace at e f W

  abbrev pub the_steps : Setup → World → Answer R.Ran
  the_steps = steps_from starts copies [] (state_of s) empty false

  pub record Stepping (p : Pass) (run : Starts) (at : AbsStack) (done : ℕ) (e f : Bool) : Type 0 where
    pub kept : Kept p₀ p run at
    pub comes : Comes p₀ the_steps p (steps_from (starts - run.count) (copies - done) (starts_of run) (state_of at) e f)

  pub steps-start : {run : Starts} → Ready p₀ → WellFormed max_len s → Begun run → Stepping p₀ run s 0 empty false
  steps-start {run} h w b =
      record {
        kept = kept-start h w b;
        comes = comes-to comes-start
            (λ L W.
            ap (λ (x : ℕ). steps_from x copies [] (state_of s) empty false (setup_for p₀.names.image.bytes.now L) W) (omega (arith, b.none))
            ∙ ap (λ (x : ℕ). steps_from (starts - run.count) x [] (state_of s) empty false (setup_for p₀.names.image.bytes.now L) W) (omega arith)
            ∙ ap (λ (x : List State). steps_from (starts - run.count) (copies - 0) x (state_of s) empty false (setup_for p₀.names.image.bytes.now L) W) (sym b.starts));
      }

  module _ {p : Pass} {run : Starts} {at : AbsStack} {done : ℕ} {e f : Bool} (k : Stepping p run at done e f) where
    steps-by : {x : R.Ran} {r : Ran} → IsRan x r
        → ((L : Lent) (W : World) → steps_from (starts - run.count) (copies - done) (starts_of run) (state_of at) e f (setup_for p.names.image.bytes.now L) W ≡ given x W)
        → Answers p₀ the_steps IsRan (Ok r) p
    steps-by i y = comes-answers k.comes k.kept.same (answers-by (answers-now i) y)

    pub steps-done : copies ≤ done → Answers p₀ the_steps IsRan (Ok (record { end = Some at; empty = e; fails = f })) p
    steps-done z =
        steps-by (record { end = record { maybe = refl; formed = k.kept.state }; empty = refl; fails = refl })
        (λ L W.
        ap (λ (x : ℕ). steps_from (starts - run.count) x (starts_of run) (state_of at) e f (setup_for p.names.image.bytes.now L) W) (omega (arith, z))
        ∙ steps-none (visit (setup_for p.names.image.bytes.now L) d.left) d.walking part required (starts - run.count) (starts_of run) (state_of at) e f W)

    module _ (more : done < copies) where
      left_is : copies - done ≡ suc (copies - suc done)
      left_is = omega (arith, more)

      -- a start that came again ends the run
      pub steps-ended : {i : ℕ} {r : Ran} → place (state_of at) (starts_of run) ≡ some i → Ended run i (copies - done) e f r → Answers p₀ the_steps IsRan (Ok r) p
      steps-ended {i} q y =
          steps-by (y.end (state_of at))
          (λ L W.
          ap (λ (y : ℕ). steps_from (starts - run.count) y (starts_of run) (state_of at) e f (setup_for p.names.image.bytes.now L) W) left_is
          ∙ steps_back (visit (setup_for p.names.image.bytes.now L) d.left) d.walking part required (starts - run.count) (copies - suc done) i (starts_of run) (state_of at) e f W q
          ∙ ap (λ (y : ℕ). given (ran (some (read_off (starts_of run) i y (state_of at))) e f) W) (sym left_is))

      module _ (q : place (state_of at) (starts_of run) ≡ none) where
        pub steps-eleven : run.count ≡ 64 → Answers p₀ the_steps IsRan (Err ManyStarts) p
        steps-eleven full =
            comes-answers k.comes k.kept.same
            (answers-by (refuses-now ManyStarts)
            (λ L W.
            ap (λ (y : ℕ). steps_from y (copies - done) (starts_of run) (state_of at) e f (setup_for p.names.image.bytes.now L) W) (omega (arith, full))
            ∙ ap (λ (y : ℕ). steps_from 0 y (starts_of run) (state_of at) e f (setup_for p.names.image.bytes.now L) W) left_is
            ∙ steps-full (visit (setup_for p.names.image.bytes.now L) d.left) d.walking part required (copies - suc done) (starts_of run) (state_of at) e f W q))

        module _ (free : run.count ≡ 64 → ⊥) where
          abbrev copied : Setup → Outcome → O.Maybe → World → Answer R.Ran
          copied S o m W =
              steps_go (visit S d.left) d.walking part (λ tr t e₁ f₁ W₂. steps_from (starts - suc run.count) (copies - suc done) tr t e₁ f₁ S W₂) (starts_of run) (state_of at) o m e f W

          abbrev rest : Setup → Outcome → World → Answer R.Ran
          rest S o W = copied S o (next required (state_of at) o) W

          copy-comes : Comes p₀ the_steps p (λ S W. and_then (visit S d.left d.walking part (state_of at) W) (rest S))
          copy-comes =
              comes-to k.comes
              (λ L W.
              ap (λ (y : ℕ). steps_from y (copies - done) (starts_of run) (state_of at) e f (setup_for p₀.names.image.bytes.now L) W) (omega (arith, k.kept.few, free))
              ∙ ap (λ (y : ℕ). steps_from (suc (starts - suc run.count)) y (starts_of run) (state_of at) e f (setup_for p₀.names.image.bytes.now L) W) left_is
              ∙ steps-new (visit (setup_for p₀.names.image.bytes.now L) d.left) d.walking part required (starts - suc run.count) (copies - suc done) (starts_of run) (state_of at) e f W q)

          module _ {a : Result Code.Outcome Refusal} {p₁ : Pass} (asked : Answers p (λ S W. visit S d.left d.walking part (state_of at) W) IsOutcome a p₁) where
            pub steps-refused : {x : Refusal} → a ≡ Err x → Answers p₀ the_steps IsRan (Err x) p₁
            steps-refused y = comes-answers copy-comes k.kept.same (on_err asked y rest)

            module _ {o : Code.Outcome} (y : a ≡ Ok o) (same : SamePass p p₁) {m : Option AbsStack} (n : IsMaybe (next required (state_of at) (outcome_of o)) m)
                {em fa : Bool} (ee : em ≡ e && still (outcome_of o)) (fe : fa ≡ f || O.is_some (maybe_of o.err)) where
              next-is : {v : O.Maybe} → maybe_of m ≡ v → (image : List ℕ) (L : Lent) (W : World) → rest (setup_for image L) (outcome_of o) W ≡ copied (setup_for image L) (outcome_of o) v W
              next-is v image L W = ap (λ (x : O.Maybe). copied (setup_for image L) (outcome_of o) x W) (sym n.maybe ∙ v)

              -- there is no next state
              pub steps-stopped : m ≡ None → Answers p₀ the_steps IsRan (Ok (record { end = None; empty = em; fails = fa })) p₁
              steps-stopped v =
                  comes-answers copy-comes k.kept.same
                  (outcome_on asked y same rest
                  (answers-by (answers-now (record { end = record { maybe = refl; formed = tt }; empty = ee; fails = fe })) (λ L W. next-is (ap maybe_of v) p₁.names.image.bytes.now L W)))

              -- and else the run goes on from it
              pub steps-again : {t : AbsStack} → m ≡ Some t → {x : ℕ} {run' : Starts} → x ≡ number_of (state_of at) → More run x run' → {done' : ℕ} → done' ≡ suc done
                  → Stepping p₁ run' t done' em fa
              steps-again {t} v {x} {run'} px more-run {done'} dn =
                  record {
                    kept = record {
                      same = same-trans k.kept.same same;
                      ready = ready-on asked y same k.kept.ready;
                      numbered = more-run.numbered;
                      few = omega (arith, k.kept.few, free, more-run.count);
                      state = subst FormedMaybe v n.formed;
                    };
                    comes = comes-to (comes-on copy-comes k.kept.same (outcome-comes asked y rest))
                        (λ L W.
                        next-is (ap maybe_of v) p₀.names.image.bytes.now L W
                        ∙ ap (λ (b : Bool). steps_from (starts - suc run.count) (copies - suc done) (state_of at ∷ starts_of run) (state_of t) b (f || O.is_some (maybe_of o.err)) (setup_for p₀.names.image.bytes.now L) W) (sym ee)
                        ∙ ap (λ (b : Bool). steps_from (starts - suc run.count) (copies - suc done) (state_of at ∷ starts_of run) (state_of t) em b (setup_for p₀.names.image.bytes.now L) W) (sym fe)
                        ∙ ap (λ (y : ℕ). steps_from y (copies - suc done) (state_of at ∷ starts_of run) (state_of t) em fa (setup_for p₀.names.image.bytes.now L) W) (omega (arith, more-run.count))
                        ∙ ap (λ (y : ℕ). steps_from (starts - run'.count) y (state_of at ∷ starts_of run) (state_of t) em fa (setup_for p₀.names.image.bytes.now L) W) (omega (arith, dn))
                        ∙ ap (λ (y : List State). steps_from (starts - run'.count) (copies - done') y (state_of t) em fa (setup_for p₀.names.image.bytes.now L) W)
                        (sym (added k.kept.state px more-run)));
                  }

-- a greedy run
module _ (p₀ : Pass) (d : Down) (part : ℕ) (s : AbsStack) (empty : Bool) where
  abbrev pub greedy_from : ℕ → List State → State → Bool → Bool → O.Maybe → Setup → World → Answer R.Ran
  greedy_from room seen at first e ok S W = greedy (visit S d.left) d.walking part room seen at first e ok W

  abbrev pub the_greedy : Setup → World → Answer R.Ran
  the_greedy = greedy_from starts [] (state_of s) true empty none

  pub record Roaming (p : Pass) (run : Starts) (at : AbsStack) (first e : Bool) (ok : Option AbsStack) : Type 0 where
    pub kept : Kept p₀ p run at
    pub formed : FormedMaybe ok
    pub comes : Comes p₀ the_greedy p (greedy_from (starts - run.count) (starts_of run) (state_of at) first e (maybe_of ok))

  pub greedy-start : {run : Starts} → Ready p₀ → WellFormed max_len s → Begun run → Roaming p₀ run s true empty None
  greedy-start {run} h w b =
      record {
        kept = kept-start h w b;
        formed = tt;
        comes = comes-to comes-start
            (λ L W.
            ap (λ (x : ℕ). greedy_from x [] (state_of s) true empty none (setup_for p₀.names.image.bytes.now L) W) (omega (arith, b.none))
            ∙ ap (λ (x : List State). greedy_from (starts - run.count) x (state_of s) true empty none (setup_for p₀.names.image.bytes.now L) W) (sym b.starts));
      }

  module _ {p : Pass} {run : Starts} {at : AbsStack} {first e : Bool} {ok : Option AbsStack} (k : Roaming p run at first e ok) where
    pub greedy-ended : {i : ℕ} → place (state_of at) (starts_of run) ≡ some i → Answers p₀ the_greedy IsRan (Ok (record { end = ok; empty = e; fails = false })) p
    greedy-ended {i} q =
        comes-answers k.comes k.kept.same
        (answers-by (answers-now (record { end = record { maybe = refl; formed = k.formed }; empty = refl; fails = refl }))
        (λ L W. greedy-back (visit (setup_for p.names.image.bytes.now L) d.left) d.walking part (starts - run.count) i (starts_of run) (state_of at) first e (maybe_of ok) W q))

    module _ (q : place (state_of at) (starts_of run) ≡ none) where
      pub greedy-eleven : run.count ≡ 64 → Answers p₀ the_greedy IsRan (Err ManyStarts) p
      greedy-eleven full =
          comes-answers k.comes k.kept.same
          (answers-by (refuses-now ManyStarts)
          (λ L W.
          ap (λ (y : ℕ). greedy_from y (starts_of run) (state_of at) first e (maybe_of ok) (setup_for p.names.image.bytes.now L) W) (omega (arith, full))
          ∙ greedy-full (visit (setup_for p.names.image.bytes.now L) d.left) d.walking part (starts_of run) (state_of at) first e (maybe_of ok) W q))

      module _ (free : run.count ≡ 64 → ⊥) where
        abbrev tried : Setup → Outcome → O.Maybe → O.Maybe → World → Answer R.Ran
        tried S o m v W =
            greedy_go (visit S d.left) d.walking part (λ sn t e₁ v₁ W₂. greedy_from (starts - suc run.count) sn t false e₁ v₁ S W₂) (starts_of run) (state_of at) e o m v W

        abbrev more : Setup → Outcome → World → Answer R.Ran
        more S o W = tried S o o.ok (ends first (state_of at) o.err (maybe_of ok)) W

        try-comes : Comes p₀ the_greedy p (λ S W. and_then (visit S d.left d.walking part (state_of at) W) (more S))
        try-comes =
            comes-to k.comes
            (λ L W.
            ap (λ (y : ℕ). greedy_from y (starts_of run) (state_of at) first e (maybe_of ok) (setup_for p₀.names.image.bytes.now L) W) (omega (arith, k.kept.few, free))
            ∙ greedy-new (visit (setup_for p₀.names.image.bytes.now L) d.left) d.walking part (starts - suc run.count) (starts_of run) (state_of at) first e (maybe_of ok) W q)

        module _ {a : Result Code.Outcome Refusal} {p₁ : Pass} (asked : Answers p (λ S W. visit S d.left d.walking part (state_of at) W) IsOutcome a p₁) where
          pub greedy-refused : {x : Refusal} → a ≡ Err x → Answers p₀ the_greedy IsRan (Err x) p₁
          greedy-refused y = comes-answers try-comes k.kept.same (on_err asked y more)

          module _ {o : Code.Outcome} (y : a ≡ Ok o) (same : SamePass p p₁) {v : Option AbsStack} (n : IsMaybe (ends first (state_of at) (maybe_of o.err) (maybe_of ok)) v)
              {em : Bool} (ee : em ≡ e && still (outcome_of o)) where
            more-is : {m : O.Maybe} → maybe_of o.ok ≡ m → (image : List ℕ) (L : Lent) (W : World) → more (setup_for image L) (outcome_of o) W ≡ tried (setup_for image L) (outcome_of o) m (maybe_of v) W
            more-is {m} q image L W =
                ap (λ (x : O.Maybe). tried (setup_for image L) (outcome_of o) x (ends first (state_of at) (maybe_of o.err) (maybe_of ok)) W) q
                ∙ ap (λ (x : O.Maybe). tried (setup_for image L) (outcome_of o) m x W) (sym n.maybe)

            -- the copy cannot succeed
            pub greedy-stopped : o.ok ≡ None → Answers p₀ the_greedy IsRan (Ok (record { end = v; empty = em; fails = false })) p₁
            greedy-stopped m =
                comes-answers try-comes k.kept.same
                (outcome_on asked y same more
                (answers-by (answers-now (record { end = record { maybe = refl; formed = n.formed }; empty = ee; fails = refl })) (λ L W. more-is (ap maybe_of m) p₁.names.image.bytes.now L W)))

            pub greedy-again : {t : AbsStack} → o.ok ≡ Some t → {x : ℕ} {run' : Starts} → x ≡ number_of (state_of at) → More run x run' → Roaming p₁ run' t false em v
            greedy-again {t} m {x} {run'} px more-run =
                record {
                  kept = record {
                    same = same-trans k.kept.same same;
                    ready = ready-on asked y same k.kept.ready;
                    numbered = more-run.numbered;
                    few = omega (arith, k.kept.few, free, more-run.count);
                    state = state-formed m (outcome-formed asked y k.kept.ready).ok;
                  };
                  formed = n.formed;
                  comes = comes-to (comes-on try-comes k.kept.same (outcome-comes asked y more))
                      (λ L W.
                      more-is (ap maybe_of m) p₀.names.image.bytes.now L W
                      ∙ ap (λ (b : Bool). greedy_from (starts - suc run.count) (state_of at ∷ starts_of run) (state_of t) false b (maybe_of v) (setup_for p₀.names.image.bytes.now L) W) (sym ee)
                      ∙ ap (λ (y : ℕ). greedy_from y (state_of at ∷ starts_of run) (state_of t) false em (maybe_of v) (setup_for p₀.names.image.bytes.now L) W) (omega (arith, more-run.count))
                      ∙ ap (λ (y : List State). greedy_from (starts - run'.count) y (state_of t) false em (maybe_of v) (setup_for p₀.names.image.bytes.now L) W) (sym (added k.kept.state px more-run)));
                }

-- a search for a loop
module _ (p₀ : Pass) (left part : ℕ) (s : AbsStack) where
  abbrev pub search_from : ℕ → State → List State → Setup → World → Answer Search
  search_from more cur past S W = loops_forever (visit S left) part more cur past W

  abbrev pub the_search : Setup → World → Answer Search
  the_search = search_from search_steps (state_of s) []

  pub record Searching (p : Pass) (seen : Starts) (cur : AbsStack) (done : ℕ) : Type 0 where
    pub kept : Kept p₀ p seen cur
    pub fewer : seen.count ≤ done
    pub comes : Comes p₀ the_search p (search_from (search_steps - done) (state_of cur) (starts_of seen))

  pub search-start : {seen : Starts} → Ready p₀ → WellFormed max_len s → Begun seen → Searching p₀ seen s 0
  search-start {seen} h w b =
      record {
        kept = kept-start h w b;
        fewer = omega (arith, b.none);
        comes = comes-to comes-start (λ L W. ap (λ (x : List State). search_from search_steps (state_of s) x (setup_for p₀.names.image.bytes.now L) W) (sym b.starts));
      }

  module _ {p : Pass} {seen : Starts} {cur : AbsStack} {done : ℕ} (k : Searching p seen cur done) where
    pub search-done : 64 ≤ done → Answers p₀ the_search IsLoop (Ok false) p
    search-done z =
        comes-answers k.comes k.kept.same
        (answers-by (answers-now {I = IsLoop} {x = spent} refl)
        (λ L W.
        ap (λ (x : ℕ). search_from x (state_of cur) (starts_of seen) (setup_for p.names.image.bytes.now L) W) (omega (arith, z))
        ∙ loops-spent (visit (setup_for p.names.image.bytes.now L) left) part (state_of cur) (starts_of seen) W))

    module _ (more : done < 64) {f : AbsStack} (fresh-is : Is max_len (fresh (state_of cur)) f) {a : Result Code.Outcome Refusal} {p₁ : Pass}
        (asked : Answers p (λ S W. visit S left false part (state_of f) W) IsOutcome a p₁) where
      abbrev gone : Setup → O.Maybe → World → Answer Search
      gone S m W = loops_go (visit S left) part (λ c v W₂. search_from (search_steps - suc done) c v S W₂) (state_of cur) (starts_of seen) W m

      abbrev search_on : Setup → Outcome → World → Answer Search
      search_on S o W = gone S (exact o) W

      turn-comes : Comes p₀ the_search p (λ S W. and_then (visit S left false part (state_of f) W) (search_on S))
      turn-comes =
          comes-to k.comes
          (λ L W.
          ap (λ (x : ℕ). search_from x (state_of cur) (starts_of seen) (setup_for p₀.names.image.bytes.now L) W) (omega (arith, more))
          ∙ loops-step (visit (setup_for p₀.names.image.bytes.now L) left) part (search_steps - suc done) (state_of cur) (starts_of seen) W
          ∙ ap (λ (x : State). and_then (visit (setup_for p₀.names.image.bytes.now L) left false part x W) (search_on (setup_for p₀.names.image.bytes.now L))) (sym fresh-is.state))

      pub search-refused : {x : Refusal} → a ≡ Err x → Answers p₀ the_search IsLoop (Err x) p₁
      search-refused y = comes-answers turn-comes k.kept.same (on_err asked y search_on)

      module _ {o : Code.Outcome} (y : a ≡ Ok o) (same : SamePass p p₁) {m : Option AbsStack} (turn : IsMaybe (exact (outcome_of o)) m) where
        go-is : {v : O.Maybe} → maybe_of m ≡ v → (image : List ℕ) (L : Lent) (W : World) → search_on (setup_for image L) (outcome_of o) W ≡ gone (setup_for image L) v W
        go-is v image L W = ap (λ (x : O.Maybe). gone (setup_for image L) x W) (sym turn.maybe ∙ v)

        -- the turn may fail, or consume
        pub search-broken : m ≡ None → Answers p₀ the_search IsLoop (Ok false) p₁
        search-broken q =
            comes-answers turn-comes k.kept.same
            (outcome_on asked y {J = IsLoop} same search_on (answers-by (answers-now {I = IsLoop} {x = breaks} refl) (λ L W. go-is (ap maybe_of q) p₁.names.image.bytes.now L W)))

        -- the turn succeeded and consumed nothing
        module _ {out : AbsStack} (q : m ≡ Some out) {past : Option Starts} (h : HuntedOn seen cur out past) where
          abbrev after_turn : Setup → World → Bool → Answer Search
          after_turn S W intact =
              loops_out (visit S left) part (λ c v W₂. search_from (search_steps - suc done) c v S W₂) (state_of cur) (starts_of seen) (state_of out) W intact

          went : {b : Bool} → out.intact ≡ b → (image : List ℕ) (L : Lent) (W : World) → search_on (setup_for image L) (outcome_of o) W ≡ after_turn (setup_for image L) W b
          went e image L W = go-is (ap maybe_of q) image L W ∙ ap (λ (b : Bool). after_turn (setup_for image L) W b) e

          comes-back : (b : Bool) → out.intact ≡ b → (g : Bool) → any_same_top (state_of out) (state_of cur ∷ starts_of seen) ≡ g → HuntedIf seen cur past b g → past ≡ None
              → Answers p₀ the_search IsLoop (Ok true) p₁
          comes-back false e g u v n = absurd (subst (λ (x : Option Starts). HuntedIf seen cur x false g) n v)
          comes-back true e false u v n = absurd (subst (λ (x : Option Starts). HuntedIf seen cur x true false) n v)
          comes-back true e true u v n =
              comes-answers turn-comes k.kept.same
              (outcome_on asked y {J = IsLoop} same search_on (answers-by (answers-now {I = IsLoop} {x = loops} refl) (λ L W. went e p₁.names.image.bytes.now L W ∙ rw u)))

          pub search-loops : past ≡ None → Answers p₀ the_search IsLoop (Ok true) p₁
          search-loops n = comes-back out.intact refl (any_same_top (state_of out) (state_of cur ∷ starts_of seen)) refl h.says n

          goes-on : (b : Bool) → out.intact ≡ b → (g : Bool) → any_same_top (state_of out) (state_of cur ∷ starts_of seen) ≡ g → {further : Starts} → HuntedIf seen cur (Some further) b g
              → Numbered further × (further.count ≤ suc seen.count) × ((image : List ℕ) (L : Lent) (W : World) → search_on (setup_for image L) (outcome_of o) W
              ≡ search_from (search_steps - suc done) (state_of out) (starts_of further) (setup_for image L) W)
          goes-on false e g u {further} v =
              (v.numbered, omega (arith, v.none), λ image L W. went e image L W ∙ ap (λ (x : List State). search_from (search_steps - suc done) (state_of out) x (setup_for image L) W) (sym v.starts))
          goes-on true e true u v = absurd (let z : ◌≡◌ {A = ℕ} 0 1 = cc in omega arith)
          goes-on true e false u {further} v = (
            v.numbered,
            omega (arith, v.count),
            λ image L W.
                went e image L W
                ∙ ap (λ (b : Bool). loops_seen (visit (setup_for image L) left) part (λ c v W₂. search_from (search_steps - suc done) c v (setup_for image L) W₂) (state_of cur) (starts_of seen) (state_of out) W b) u
                ∙ ap (λ (x : List State). search_from (search_steps - suc done) (state_of out) x (setup_for image L) W) (sym (added k.kept.state refl v)),
          )

          pub search-again : {further : Starts} → past ≡ Some further → {done' : ℕ} → done' ≡ suc done → Searching p₁ further out done'
          search-again {further} n {done'} dn =
              let w = goes-on out.intact refl (any_same_top (state_of out) (state_of cur ∷ starts_of seen)) refl
              (subst (λ (x : Option Starts). HuntedIf seen cur x out.intact (any_same_top (state_of out) (state_of cur ∷ starts_of seen))) n h.says) in
              record {
                kept = record {
                  same = same-trans k.kept.same same;
                  ready = ready-on asked y same k.kept.ready;
                  numbered = w.0;
                  few = omega (arith, w.1, k.fewer, more);
                  state = state-formed q turn.formed;
                };
                fewer = omega (arith, w.1, k.fewer, dn);
                comes = comes-to (comes-on turn-comes k.kept.same (outcome-comes asked y search_on))
                    (λ L W. w.2 p₀.names.image.bytes.now L W ∙ ap (λ (x : ℕ). search_from x (state_of out) (starts_of further) (setup_for p₀.names.image.bytes.now L) W) (omega (arith, dn)));
              }
