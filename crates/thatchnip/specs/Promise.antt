-- What the entry promises: the number and every byte of the three lent tables; and what the passes before it leave. Assumes nothing.
use Rattle.std.specs.Prelude.{◌≡◌, List, [], ℕ, ◌-◌, ◌%◌, ◌<◌, length, get_or, take, Result, Ok}
use Rattle.image.specs.Grammar.{Grammar, grammar}
use Rattle.image.specs.declared.refusal.Refusal.{Refusal}
use Rattle.image.specs.RefusalNumber.{number_of}
use Rattle.asking.specs.StackPass.{stack_pass}
use Rattle.tables.specs.Bytes.{zeros}
use Rattle.tables.specs.Places.{places}
use Rattle.tables.specs.Words.{words, Holds}
use Rattle.passes.specs.Report.{Result as Found, refused, done, onward, place}
use Rattle.passes.specs.TopDown.{validate_repetition, validate_choices}
use Rattle.passes.specs.LeftRecursion.{left_recursion}
use Rattle.passes.specs.Order.{ordered}
use Rattle.thatchnip.specs.Check.{loops_found, check_grammar}
use Rattle.thatchnip.specs.Exit.{checked, result_number, work_bytes, report_bytes}

-- of each word the rule alone
pub record OnlyRules (names names' : List ℕ) : Type 0 where
  pub each : (n : ℕ) → n < 2048 → get_or names' n 0 ≡ get_or names n 0 % 512

-- passes 1 and 2 together, and 3, of a grammar
abbrev pub first_found : Grammar → ℕ → ℕ → ℕ → Found
first_found g outcomes walked reports =
    onward (place reports [] (validate_repetition g)) (λ found₁₂. loops_found found₁₂ (stack_pass g outcomes walked (reports - length found₁₂)))

-- 4, 5 and the order, behind what was found
abbrev pub last_found : Grammar → ℕ → List ℕ → Found
last_found g reports found =
    onward (place reports found (validate_choices g)) (λ found₄. onward (left_recursion g reports 0 g.rules found₄) (λ found₅. done (ordered g found₅)))

-- a refusal is told, or the reports stand in the table
abbrev pub LeavesIf : Result ℕ Refusal → List ℕ → Found → Type 0
LeavesIf r table (refused k) = (number_of r ≡ k) × (0 < k)
LeavesIf r table (done found) = (r ≡ Ok (length found)) × Holds table found

pub record FirstPasses (image outcomes walked reports : List ℕ) (r : Result ℕ Refusal) (outcomes' walked' reports' : List ℕ) : Type 0 where
  pub outcomes-zero : outcomes' ≡ zeros (length outcomes)
  pub walked-zero : walked' ≡ zeros (length walked)
  pub leaves : LeavesIf r reports' (first_found (grammar image) (places 8 outcomes) (places 4 walked) (places 8 reports))

pub record LastPasses (image reports : List ℕ) (count : ℕ) (r : Result ℕ Refusal) (reports' : List ℕ) : Type 0 where
  pub leaves : LeavesIf r reports' (last_found (grammar image) (places 8 reports) (take count (words reports)))

pub record CheckedImage (image outcomes walked reports : List ℕ) (r : Result ℕ Refusal) (outcomes' walked' reports' : List ℕ) : Type 0 where
  pub outcomes-zero : outcomes' ≡ zeros (length outcomes)
  pub walked-zero : walked' ≡ zeros (length walked)
  pub leaves : LeavesIf r reports' (check_grammar (grammar image) (places 8 outcomes) (places 4 walked) (places 8 reports))

-- the number and every byte, for every image and every three tables
pub record Checked (image outcomes walked reports : List ℕ) (r : ℕ) (outcomes' walked' reports' : List ℕ) : Type 0 where
  pub number : r ≡ result_number (checked image (length outcomes) (length walked) (length reports))
  pub outcomes-zero : outcomes' ≡ work_bytes (length outcomes)
  pub walked-zero : walked' ≡ work_bytes (length walked)
  pub report-bytes : reports' ≡ report_bytes (length reports) (checked image (length outcomes) (length walked) (length reports))
