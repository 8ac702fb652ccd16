-- The definition of `visit` and `outcome`, case by case. Assumes nothing.
use mathlib.Core.Path.{◌≡◌, refl}
use mathlib.Core.Bool.{Bool, true, false}
use Prim.Native.Nat.{ℕ, suc, ◌<◌}
use native.Mathlib.Omega.{arith}
use lib.ListN.{length}
use borrow.Author.Tests.{lt-ltb, le-ltb}
use Rattle.stack.specs.State.{State}
use Rattle.machine.specs.Outcome.{Outcome, unknown}
use Rattle.asking.specs.World.{Setup, World, refused, given, and_then, has_pair, absent, opened, known, look, opens, closes, walks}
use Rattle.asking.specs.Ask.{step, visit}

module _ (S : Setup) (left n : ℕ) (s : State) (W : World) where
  -- "12 (remembered answers included)"
  pub visit-none : (walking : Bool) → visit S 0 walking n s W ≡ refused 12
  unfolding visit
  visit-none walking = refl

  -- a pair that was walked is asked for its outcome
  pub visit-walked : has_pair n s W.walked ≡ true → visit S (suc left) true n s W ≡ visit S (suc left) false n s W
  unfolding visit
  visit-walked e = rw e

  -- one that was not is stepped afresh
  pub visit-new : has_pair n s W.walked ≡ false → length W.walked < S.walked_places → visit S (suc left) true n s W ≡ step S (visit S left) true n s (walks n s W)
  unfolding visit
  visit-new e l = rw (e, lt-ltb (length W.walked) S.walked_places l)

  pub visit-full : has_pair n s W.walked ≡ false → length W.walked ≡ S.walked_places → visit S (suc left) true n s W ≡ refused 9
  unfolding visit
  visit-full e l = rw (e, le-ltb (length W.walked) S.walked_places (omega arith))

  -- remembered, open, new
  pub outcome-known : (o : Outcome) → look n s W.memo ≡ known o → visit S (suc left) false n s W ≡ given o W
  unfolding visit
  outcome-known o e = rw e

  pub outcome-open : look n s W.memo ≡ opened → visit S (suc left) false n s W ≡ given unknown W
  unfolding visit
  outcome-open e = rw e

  pub outcome-new : look n s W.memo ≡ absent → length W.memo < S.outcome_places
      → visit S (suc left) false n s W ≡ and_then (step S (visit S left) false n s (opens n s W)) (λ o W₁. given o (closes n s o W₁))
  unfolding visit
  outcome-new e l = rw (e, lt-ltb (length W.memo) S.outcome_places l)

  pub outcome-full : look n s W.memo ≡ absent → length W.memo ≡ S.outcome_places → visit S (suc left) false n s W ≡ refused 8
  unfolding visit
  outcome-full e l = rw (e, le-ltb (length W.memo) S.outcome_places (omega arith))
