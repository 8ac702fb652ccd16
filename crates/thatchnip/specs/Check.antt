-- The whole check (document 01, "What comes back"): refusals 1 to 7, the passes in their order, and the final order. Assumes nothing.
use Rattle.std.specs.Prelude.{List, [], ◌++◌, ℕ, zero, suc, ◌-◌, length}
use Rattle.image.specs.Refusal.{refusal}
use Rattle.image.specs.Grammar.{Grammar, grammar}
use Rattle.asking.specs.World.{Answer}
use Rattle.asking.specs.World as A
use Rattle.asking.specs.StackPass.{stack_pass, loop_reports}
use Rattle.passes.specs.Report.{Result, refused, done, onward, place}
use Rattle.passes.specs.TopDown.{validate_repetition, validate_choices}
use Rattle.passes.specs.LeftRecursion.{left_recursion}
use Rattle.passes.specs.Order.{ordered}

abbrev pub loops_found : List ℕ → Answer (Unit {0}) → Result
loops_found found (A.refused k) = refused k
loops_found found (A.given u W) = done (found ++ loop_reports W.reports)

-- "Passes run 1 and 2 together, 3, 4, 5; reports are then ordered": the grammar, and the places of the three tables
unfoldable pub check_grammar : Grammar → ℕ → ℕ → ℕ → Result
check_grammar g outcomes walked reports =
    onward (place reports [] (validate_repetition g))
    (λ found₁₂. onward (loops_found found₁₂ (stack_pass g outcomes walked (reports - length found₁₂)))
    (λ found₃. onward (place reports found₃ (validate_choices g))
    (λ found₄. onward (left_recursion g reports 0 g.rules found₄)
    (λ found₅. done (ordered g found₅)))))

-- "1 to 7 are tried in that order over the whole image. 8 to 13: the first met"
abbrev pub check_judged : List ℕ → ℕ → ℕ → ℕ → ℕ → Result
check_judged image outcomes walked reports zero = check_grammar (grammar image) outcomes walked reports
check_judged image outcomes walked reports (suc k) = refused (suc k)

-- the image's bytes, and the places of the outcome, walked and report table
unfoldable pub check : List ℕ → ℕ → ℕ → ℕ → Result
check image outcomes walked reports = check_judged image outcomes walked reports (refusal image)
