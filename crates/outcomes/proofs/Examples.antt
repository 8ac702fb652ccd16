-- Computed examples: numbers of outcomes, and the outcomes behind document 01's `(PUSH("") ~ POP)*` and `POP_ALL ~ PEEK_ALL*`.
-- Assumes nothing.
use mathlib.Core.Path.{◌≡◌, refl}
use mathlib.Core.Bool.{Bool, true, false}
use mathlib.Core.List.{[], ◌∷◌}
use mathlib.Core.Option.{none, some}
use lib.ListN.{replicate}
use Rattle.stack.specs.declared.Base.TheVariants.{Any}
use Rattle.stack.specs.State.{State, max_len, entry, popped_one, popped_all, all_blank, is_empty, top_blank}
use Rattle.stack.specs.Number.{number_of, state_at}
use Rattle.machine.specs.Outcome.{Outcome, unknown, never, succeeds, exact, of_push, of_top, of_seq, of_peek_all}
use Rattle.outcomes.specs.Word.{outcome_number, outcome_at}

-- neither state, and still not the 0 of an open pair
never-number : outcome_number never ≡ 3
unfolding outcome_number
never-number = refl

-- 1 + 4 × 8,193 + 131,072 × 8,193
unknown-number : outcome_number unknown ≡ 1073905669
unfolding outcome_number number_of
unknown-number = refl

unknown-back : outcome_at 1073905669 ≡ unknown
unfolding outcome_at state_at
unknown-back = refl

-- the highest number of all fits 32 bits
abbrev highest : State
highest = record { base = Any; tops = replicate 8 true; intact = true }

highest-number : outcome_number (record { ok = some highest; err = some highest; empty = true }) ≡ 3523322883
unfolding outcome_number number_of
highest-number = refl

-- PUSH("") ~ POP from a rule's start comes back to it and consumes nothing; not so under skips
abbrev turn : Bool → Outcome
turn skips = of_seq skips entry (of_push max_len (succeeds entry)) (of_top blank (popped_one blank))
  where
    blank : State
    blank = record { base = Any; tops = true ∷ []; intact = true }

turn-exact : exact (turn false) ≡ some entry
unfolding popped_one is_empty top_blank
turn-exact = refl

turn-under-skips : exact (turn true) ≡ none
unfolding popped_one is_empty top_blank
turn-under-skips = refl

-- after POP_ALL, PEEK_ALL succeeds in place; from a rule's start it may fail
after-pop-all : exact (of_peek_all (popped_all entry)) ≡ some (popped_all entry)
unfolding popped_all all_blank
after-pop-all = refl

bare-peek-all : exact (of_peek_all entry) ≡ none
unfolding all_blank
bare-peek-all = refl
