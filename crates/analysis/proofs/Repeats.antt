-- A repetition, from its runs of copies. Assumes nothing.
use Rattle.std.specs.Prelude.{None, Option, Result, Ok, Err}
use mathlib.Core.Path.{◌≡◌, refl}
use mathlib.Core.Bool.{Bool, true, false, ◌||◌, not, cond}
use mathlib.Core.List.{[]}
use mathlib.Core.Option.{none, some}
use Prim.Native.Nat.{ℕ, ◌+◌}
use lib.Dec.{ltb}
use Rattle.stack.specs.declared.AbsStack.{AbsStack}
use Rattle.stack.specs.Promise.{state_of}
use Rattle.image.specs.declared.refusal.Refusal.{Refusal}
use Rattle.machine.specs.Outcome as O
use Rattle.machine.specs.Outcome.{Outcome}
use Rattle.asking.specs.World.{Setup, World, Answer, given, and_then}
use Rattle.asking.specs.Runs as R
use Rattle.asking.specs.Runs.{steps, greedy}
use Rattle.asking.specs.Ask.{visit, starts, searched, restored, unbounded_rest, bounded_rest, repeat_unbounded, repeat_bounded}
use Rattle.outcomes.specs.declared.Outcome as Code
use Rattle.outcomes.specs.Promise.{IsMaybe, IsOutcome}
use Rattle.turns.specs.declared.Ran.{Ran}
use Rattle.turns.specs.Promise.{IsRan}
use Rattle.analysis.specs.declared.Pass.{Pass}
use Rattle.analysis.specs.declared.Down.{Down}
use Rattle.analysis.specs.Methods.{SamePass, Ready, Done, Answers}
use Rattle.analysis.proofs.On.{setup-skips, ran_of, answers-by, on_err, ready-on, ok-is, on_ok, ran_on, answers-now}

-- an outcome of two well-formed options
outcome-is : {x y : O.Maybe} {ok err : Option AbsStack} (empty : Bool) → IsMaybe x ok → IsMaybe y err
    → IsOutcome (record { ok = x; err = y; empty = empty }) (record { ok = ok; err = err; empty = empty })
outcome-is empty a b =
    record { outcome = λ i. record { ok = a.maybe i; err = b.maybe i; empty = empty }; formed = record { ok = a.formed; err = b.formed } }

-- what follows the required copies, as the definition asks
module _ (d : Down) (part : ℕ) (s : AbsStack) where
  abbrev pub greedy_rest : Setup → R.Ran → World → Answer Outcome
  greedy_rest S x W = unbounded_rest S (visit S d.left) d.walking part (state_of s) x.empty x.fails W x.end

  abbrev pub optional_rest : ℕ → Setup → R.Ran → World → Answer Outcome
  optional_rest optional S x W = bounded_rest S (visit S d.left) d.walking part optional (state_of s) x.empty x.fails W x.end

  abbrev pub required_copies : ℕ → Bool → Setup → World → Answer R.Ran
  required_copies required empty S W = steps (visit S d.left) d.walking part true starts required [] (state_of s) empty false W

-- a run, and what follows it
module _ {p p₁ : Pass} (s : AbsStack) {Q : Setup → World → Answer R.Ran} {a : Result Ran Refusal} (asked : Answers p Q IsRan a p₁) {q : Ran} (e : a ≡ Ok q) (same : SamePass p p₁)
    {err : Option AbsStack} (restores : IsMaybe (cond q.fails (some (state_of s)) none) err) (F : Setup → R.Ran → World → Answer Outcome) where
  -- it left no state
  pub run-none : ((S : Setup) (W : World) → F S (ran_of q) W ≡ given (record { ok = none; err = restored S q.fails (state_of s); empty = true }) W)
      → Answers p (λ S W. and_then (Q S W) (F S)) IsOutcome (Ok (record { ok = None; err = err; empty = true })) p₁
  run-none f =
      ran_on asked e same F (answers-by (answers-now (outcome-is true (record { maybe = refl; formed = tt }) restores)) (λ L W. f _ W))

  -- a second run follows it
  module _ {Q' : Setup → World → Answer R.Ran}
      (f : (S : Setup) (W : World) → F S (ran_of q) W ≡ and_then (Q' S W) (λ r W₁. given (record { ok = r.end; err = restored S q.fails (state_of s); empty = r.empty }) W₁))
      {b : Result Ran Refusal} {p₂ : Pass} (then : Answers p₁ Q' IsRan b p₂) where
    abbrev both : Setup → R.Ran → World → Answer Outcome
    both S r W = given (record { ok = r.end; err = restored S q.fails (state_of s); empty = r.empty }) W

    pub run-refuses : {k : Refusal} → b ≡ Err k → Answers p (λ S W. and_then (Q S W) (F S)) IsOutcome (Err k) p₂
    run-refuses y = ran_on asked e same F (answers-by (on_err then y both) (λ L W. f _ W))

    pub run-answers : Ready p₁ → SamePass p₁ p₂ → {g : Ran} → b ≡ Ok g
        → Answers p (λ S W. and_then (Q S W) (F S)) IsOutcome (Ok (record { ok = g.end; err = err; empty = g.empty })) p₂
    run-answers h₁ same₂ {g} y =
        ran_on asked e same F
        (answers-by
        (ran_on then y same₂ both (answers-now (outcome-is g.empty (record { maybe = refl; formed = (ok-is then y h₁).1.end.formed }) restores)))
        (λ L W. f _ W))

module _ {p : Pass} (h : Ready p) (d : Down) (part required : ℕ) (s : AbsStack) where
  -- a repetition without a most
  module _ (n : ℕ) {r : Result (Unit {0}) Refusal} {p₁ : Pass} (sought : Answers p (λ S W. searched S (visit S d.left) d.walking n part (state_of s) W) Done r p₁) where
    abbrev copies_rest : Setup → Unit {0} → World → Answer Outcome
    copies_rest S u W = and_then (required_copies d part s required (not S.nodes.skips) S W) (greedy_rest d part s S)

    pub repeat-refuses : {k : Refusal} → r ≡ Err k → Answers p (λ S W. repeat_unbounded S (visit S d.left) d.walking n part required (state_of s) W) IsOutcome (Err k) p₁
    unfolding repeat_unbounded
    repeat-refuses e = on_err sought e copies_rest

    pub repeat-on : {u : Unit {0}} → r ≡ Ok u → SamePass p p₁ → {x : Result Code.Outcome Refusal} {p₂ : Pass}
        → Answers p₁ (λ S W. and_then (required_copies d part s required (not p₁.skips) S W) (greedy_rest d part s S)) IsOutcome x p₂
        → Answers p (λ S W. repeat_unbounded S (visit S d.left) d.walking n part required (state_of s) W) IsOutcome x p₂
    unfolding repeat_unbounded
    repeat-on e same a = on_ok sought e same copies_rest (λ u _. answers-by a (λ L W. rw (setup-skips p₁.names.image.bytes.now L, ← (ready-on sought e same h).skips)))

  -- a repetition with a most
  pub bounded-on : (optional : ℕ) {e : Bool} → e ≡ not p.skips || ltb (required + optional) 2 → {x : Result Code.Outcome Refusal} {p₁ : Pass}
      → Answers p (λ S W. and_then (required_copies d part s required e S W) (optional_rest d part s optional S)) IsOutcome x p₁
      → Answers p (λ S W. repeat_bounded S (visit S d.left) d.walking part required optional (state_of s) W) IsOutcome x p₁
  unfolding repeat_bounded
  bounded-on optional q a = answers-by a (λ L W. rw (setup-skips p.names.image.bytes.now L, ← h.skips, ← q))
