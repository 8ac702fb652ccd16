-- The outcome's number both ways: it fits 32 bits, is never 0, and is one to one on the outcomes with states within the limit.
-- Assumes nothing.
use mathlib.Core.Path.{◌≡◌, refl, sym, ap, ◌∙◌}
use mathlib.Core.Option.{none, some}
use Prim.Native.Nat.{ℕ, zero, suc, ◌+◌, ◌-◌, ◌/◌, ◌%◌, ◌<◌}
use native.Mathlib.Numerals.{add-one}
use native.Mathlib.Omega.{arith}
use lib.Dec.{eqb}
use Rattle.stack.specs.State.{State, Within, max_len}
use Rattle.stack.specs.Number.{bit, number_of, state_at}
use Rattle.stack.proofs.Numbers.{bit-lt, bit-eqb, base-lt, blank-lt, state_at-number_of}
use Rattle.machine.specs.Outcome.{Maybe, Outcome}
use Rattle.outcomes.specs.Word.{WithinMaybe, WithinOutcome, maybe_number, maybe_at, outcome_number, outcome_at, NumberOfOutcome}

-- a state's number leaves room for one more in 15 bits
state-lt : (s : State) → Within max_len s → number_of s + 1 < 32768
unfolding number_of
state-lt s w = omega (arith, base-lt s.base, bit-lt s.intact, blank-lt s.tops w)

pub maybe_number-lt : (m : Maybe) → WithinMaybe max_len m → maybe_number m < 32768
maybe_number-lt none w = omega arith
maybe_number-lt (some s) w = state-lt s w

pub maybe_at-maybe_number : (m : Maybe) → WithinMaybe max_len m → maybe_at (maybe_number m) ≡ m
maybe_at-maybe_number none w = refl
maybe_at-maybe_number (some s) w = rw (add-one (number_of s)) (ap some (state_at-number_of s w))

-- a number that is not 0 is a state's, and one more
pub maybe_at-state : (n : ℕ) → (n ≡ 0 → ⊥) → some (state_at (n - 1)) ≡ maybe_at n
maybe_at-state zero h = absurd (h refl)
maybe_at-state (suc n) h = let e : suc n - 1 ≡ n = omega arith in rw e

-- an answer's number is not that of an open pair
pub outcome_number-marked : (o : Outcome) → 0 < outcome_number o
unfolding outcome_number
outcome_number-marked o = omega arith

module _ (o : Outcome) (w : WithinOutcome max_len o) where
  pub outcome_number-lt : outcome_number o < 4294967296
  unfolding outcome_number
  outcome_number-lt = omega (arith, bit-lt o.empty, maybe_number-lt o.ok w.ok, maybe_number-lt o.err w.err)

  pub number-empty : outcome_number o / 2 % 2 ≡ bit o.empty
  unfolding outcome_number
  number-empty = omega (arith, bit-lt o.empty)

  pub number_ok : outcome_number o / 4 % 32768 ≡ maybe_number o.ok
  unfolding outcome_number
  number_ok = omega (arith, bit-lt o.empty, maybe_number-lt o.ok w.ok)

  pub number-err : outcome_number o / 131072 % 32768 ≡ maybe_number o.err
  unfolding outcome_number
  number-err = omega (arith, bit-lt o.empty, maybe_number-lt o.ok w.ok, maybe_number-lt o.err w.err)

  pub outcome_at-outcome_number : outcome_at (outcome_number o) ≡ o
  unfolding outcome_at
  outcome_at-outcome_number = λ i. record {
    ok = (ap maybe_at number_ok ∙ maybe_at-maybe_number o.ok w.ok) i;
    err = (ap maybe_at number-err ∙ maybe_at-maybe_number o.err w.err) i;
    empty = (ap (λ k. eqb k 1) number-empty ∙ bit-eqb o.empty) i;
  }

  pub number-of-outcome : NumberOfOutcome max_len (outcome_number o)
  number-of-outcome = record { outcome = o; within = w; number = refl }

pub outcome_number-outcome_at : (v : ℕ) → NumberOfOutcome max_len v → outcome_number (outcome_at v) ≡ v
outcome_number-outcome_at v h = rw (← h.number) (ap outcome_number (outcome_at-outcome_number h.outcome h.within))

pub outcome_number-one : (a b : Outcome) → WithinOutcome max_len a → WithinOutcome max_len b → outcome_number a ≡ outcome_number b → a ≡ b
outcome_number-one a b ha hb e = sym (outcome_at-outcome_number a ha) ∙ ap outcome_at e ∙ outcome_at-outcome_number b hb
