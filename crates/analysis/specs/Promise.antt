-- What the whole pass leaves. Assumes nothing.
use Rattle.std.specs.Prelude.{◌≡◌, List, ◌++◌, ℕ, ◌+◌, ◌-◌, length, take, Result, Ok, Err}
use Rattle.image.specs.Grammar.{grammar}
use Rattle.image.specs.declared.refusal.Refusal.{Refusal}
use Rattle.image.specs.RefusalNumber.{refusal_number}
use Rattle.asking.specs.World.{Answer, refused, given}
use Rattle.asking.specs.StackPass.{loop_reports, stack_pass}
use Rattle.tables.specs.Bytes.{zeros}
use Rattle.tables.specs.Places.{places}
use Rattle.tables.specs.Words.{words, laid, Holds}

-- what the pass leaves, by its result and the definition's answer: on a refusal every byte zero
abbrev pub PassedIf : ℕ → List ℕ → Result ℕ Refusal → List ℕ → Answer (Unit {0}) → Type 0
PassedIf size found (Err k) table' (refused n) = (refusal_number k ≡ n) × (table' ≡ zeros size)
PassedIf size found (Err k) table' (given u W) = ⊥
PassedIf size found (Ok count) table' (refused n) = ⊥
PassedIf size found (Ok count) table' (given u W) =
    (count ≡ length found + length W.reports) × (table' ≡ laid size (found ++ loop_reports W.reports)) × Holds table' (found ++ loop_reports W.reports)

-- "Both work tables are zero on every return", and the report table holds the definition's reports behind those that it held
pub record StackPassed (image memo walked table : List ℕ) (count : ℕ) (r : Result ℕ Refusal) (memo' walked' table' : List ℕ) : Type 0 where
  pub outcomes-zero : memo' ≡ zeros (length memo)
  pub walked-zero : walked' ≡ zeros (length walked)
  pub reports : PassedIf (length table) (take count (words table)) r table' (stack_pass (grammar image) (places 8 memo) (places 4 walked) (places 8 table - count))
