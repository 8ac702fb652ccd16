-- The check refuses with 1 to 13 or gives few reports, and so its number, count + 2^32 × refusal, can be taken apart. Assumes nothing.
use mathlib.Core.Path.{◌≡◌, refl, subst}
use mathlib.Core.List.{List, []}
use Prim.Native.Nat.{ℕ, zero, suc, ◌+◌, ◌-◌, ◌/◌, ◌%◌, ◌<◌, ◌≤◌}
use native.Mathlib.Omega.{arith}
use lib.ListN.{length, length-append}
use Rattle.image.specs.Refusal.{refusal}
use Rattle.image.specs.Grammar.{Grammar, grammar}
use Rattle.image.specs.Formed.{Formed}
use Rattle.image.proofs.Accept.{refusal-small}
use Rattle.image.proofs.GrammarLaws.{formed}
use Rattle.asking.specs.World.{Answer}
use Rattle.asking.specs.World as A
use Rattle.asking.specs.StackPass.{stack_pass, loop_reports}
use Rattle.asking.proofs.FewLoops.{loops-refusal, few-loops}
use Rattle.passes.specs.Report.{Result, refused, done, place}
use Rattle.passes.specs.TopDown.{validate_repetition, validate_choices}
use Rattle.passes.specs.LeftRecursion.{left_recursion}
use Rattle.passes.proofs.Ordering.{ordered-count}
use Rattle.passes.proofs.FewReports.{Few, few-onward, few-more, few-placed, few-repetitions, few-choices}
use Rattle.passes.proofs.FewRecursions.{few-recursions}
use Rattle.thatchnip.specs.Check.{loops_found, check_grammar, check_judged, check}
use Rattle.thatchnip.specs.Exit.{result_number}

-- at most three reports a node, for reasons 1 or 2, 3 and 4, and one a rule, for reason 5
abbrev most : Grammar → ℕ
most g = length g.rules + (length g.nodes + length g.nodes + length g.nodes)

loops-within : (g : Grammar) (outcomes walked reports m : ℕ) (found : List ℕ) → length found ≤ m
    → Few (m + length g.nodes) (loops_found found (stack_pass g outcomes walked reports))
loops-within g outcomes walked reports m found h = go (stack_pass g outcomes walked reports) refl
  where
    go : (a : Answer (Unit {0})) → stack_pass g outcomes walked reports ≡ a → Few (m + length g.nodes) (loops_found found a)
    go (A.refused k) e = loops-refusal g outcomes walked reports k e
    go (A.given u W) e = omega (arith, few-loops g outcomes walked reports W e, length-append found (loop_reports W.reports))

grammar-few : (g : Grammar) → Formed g → (outcomes walked reports : ℕ) → Few (most g) (check_grammar g outcomes walked reports)
unfolding check_grammar
grammar-few g formed outcomes walked reports =
    let n : ℕ = length g.nodes in
    few-onward (0 + n) (most g) (place reports [] (validate_repetition g)) _ (few-placed 0 n reports [] (validate_repetition g) (omega arith) (few-repetitions g formed))
    (λ found₁₂ h₁₂. few-onward (n + n) (most g) (loops_found found₁₂ (stack_pass g outcomes walked (reports - length found₁₂))) _
    (loops-within g outcomes walked (reports - length found₁₂) n found₁₂ (omega arith))
    (λ found₃ h₃. few-onward (n + n + n) (most g) (place reports found₃ (validate_choices g)) _
    (few-placed (n + n) n reports found₃ (validate_choices g) h₃ (few-choices g formed))
    (λ found₄ h₄. few-onward (most g) (most g) (left_recursion g reports 0 g.rules found₄) _
    (few-recursions g reports 0 (n + n + n) g.rules found₄ h₄)
    (λ found₅ h₅. omega (arith, ordered-count g found₅)))))

-- 256 rules and 2,048 nodes at most
pub check-few : (image : List ℕ) (outcomes walked reports : ℕ) → Few 6400 (check image outcomes walked reports)
unfolding check
check-few image outcomes walked reports = go (refusal image) refl
  where
    go : (k : ℕ) → refusal image ≡ k → Few 6400 (check_judged image outcomes walked reports k)
    go zero e =
        let f : Formed (grammar image) = formed image e in
        few-more (most (grammar image)) 6400 (omega (arith, f.few-rules, f.few-nodes)) (check_grammar (grammar image) outcomes walked reports)
        (grammar-few (grammar image) f outcomes walked reports)
    go (suc k) e = (omega arith, omega (arith, refusal-small image))

-- a count fits below 2^32
pub few-reports : (image : List ℕ) (outcomes walked reports : ℕ) (xs : List ℕ) → check image outcomes walked reports ≡ done xs → length xs < 4294967296
few-reports image outcomes walked reports xs e =
    let h : length xs ≤ 6400 = subst (Few 6400) e (check-few image outcomes walked reports) in
    omega arith

-- a refusal is one of document 01's table
pub small-refusal : (image : List ℕ) (outcomes walked reports k : ℕ) → check image outcomes walked reports ≡ refused k → (0 < k) × (k ≤ 13)
small-refusal image outcomes walked reports k e = subst (Few 6400) e (check-few image outcomes walked reports)

-- the refusal of a result, 0 where there is none, and how many reports it has
abbrev pub refusal_in : Result → ℕ
refusal_in (refused k) = k
refusal_in (done xs) = 0

abbrev pub count_in : Result → ℕ
count_in (refused k) = 0
count_in (done xs) = length xs

taken-apart : (r : Result) → Few 6400 r → (result_number r / 4294967296 ≡ refusal_in r) × (result_number r % 4294967296 ≡ count_in r)
taken-apart (refused k) h = (omega arith, omega arith)
taken-apart (done xs) h = (omega arith, omega arith)

-- the number divided by 2^32 is the refusal, and what is left over is the count
pub number-taken-apart : (image : List ℕ) (outcomes walked reports : ℕ)
    → (result_number (check image outcomes walked reports) / 4294967296 ≡ refusal_in (check image outcomes walked reports))
    × (result_number (check image outcomes walked reports) % 4294967296 ≡ count_in (check image outcomes walked reports))
number-taken-apart image outcomes walked reports = taken-apart (check image outcomes walked reports) (check-few image outcomes walked reports)
