-- `validate_repetition` and `validate_choices`: reasons 1, 2 and 4 as lists; rules in order; top down, left first. Assumes nothing.
use Rattle.std.specs.Prelude.{Bool, ◌||◌, cond, List, [], ◌∷◌, ℕ, zero, suc, eqb}
use Rattle.image.specs.declared.expr.Expr.{Expr}
use Rattle.image.specs.Kinds.{numbers_of, parts_of}
use Rattle.image.specs.Verdict.{cannot_fail, not_progressing}
use Rattle.image.specs.Grammar.{Grammar, expr_at, bits_at}
use Rattle.tables.specs.Report.{report}
use Rattle.passes.specs.Report.{flat}

-- kind 19, NodeTag: the Rust's `filter_map_top_down` does not go below it
abbrev pub parts_down : Expr → List ℕ
parts_down e = cond (eqb (numbers_of e).kind 19) [] (parts_of e)

-- a node, then what is below it, left first; the bound is above the node, and a part's number is below its node's
unfoldable pub down : Grammar → ℕ → ℕ → List ℕ
down g zero n = []
down g (suc bound) n = n ∷ flat (down g bound) (parts_down (expr_at g n))

abbrev pub top_down : Grammar → ℕ → List ℕ
top_down g n = down g (suc n) n

-- "rules in order; top down, left first"
unfoldable pub nodes_down : Grammar → List ℕ
nodes_down g = flat (λ r. top_down g r.root) g.rules

-- kinds 11, 12 and 14
abbrev pub is_repeat : Expr → Bool
is_repeat e = eqb (numbers_of e).kind 11 || eqb (numbers_of e).kind 12 || eqb (numbers_of e).kind 14

-- what the bits of a repetition's part give, 1 before 2
abbrev pub repeat_report : ℕ → ℕ → List ℕ
repeat_report n bits = cond (cannot_fail bits) (report n 0 1 ∷ []) (cond (not_progressing bits) (report n 0 2 ∷ []) [])

-- "1 and 2 are for Rep, RepOnce and RepMin whose part has that bit, 1 where it has both"; they "name the repetition"
unfoldable pub repetition_at : Grammar → ℕ → List ℕ
repetition_at g n = cond (is_repeat (expr_at g n)) (repeat_report n (bits_at g (numbers_of (expr_at g n)).a)) []

-- kind 9
abbrev pub is_choice : Expr → Bool
is_choice e = eqb (numbers_of e).kind 9

-- "its left, or the left's right where the left is a Choice"
unfoldable pub judged_side : Grammar → ℕ → ℕ
judged_side g left = cond (is_choice (expr_at g left)) (numbers_of (expr_at g left)).b left

abbrev pub choice_report : ℕ → ℕ → List ℕ
choice_report side bits = cond (cannot_fail bits) (report side 0 4 ∷ []) []

-- "4 is for a Choice whose judged side has bit 1"; it names "the judged side"
unfoldable pub choice_at : Grammar → ℕ → List ℕ
choice_at g n =
    let side : ℕ = judged_side g (numbers_of (expr_at g n)).a in
    cond (is_choice (expr_at g n)) (choice_report side (bits_at g side)) []

unfoldable pub validate_repetition : Grammar → List ℕ
validate_repetition g = flat (repetition_at g) (nodes_down g)

unfoldable pub validate_choices : Grammar → List ℕ
validate_choices g = flat (choice_at g) (nodes_down g)
