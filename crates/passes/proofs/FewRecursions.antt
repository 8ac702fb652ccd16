-- The pass for reason 5 comes to a refusal of 1 to 13 or one report a rule: the search from a rule ends with 13 at most. Assumes nothing.
use Rattle.std.specs.Prelude.{Option, Some, None}
use mathlib.Core.Bool.{Bool, true, false}
use mathlib.Core.List.{List, [], ◌∷◌, ◌++◌}
use Prim.Native.Nat.{ℕ, zero, suc, ◌+◌, ◌≤◌}
use native.Mathlib.Omega.{arith}
use lib.Dec.{eqb, ltb}
use lib.ListN.{length, length-append}
use Rattle.image.specs.declared.expr.Expr.{Expr}
use Rattle.image.specs.declared.expr.Expr.TheVariants.{Str, Insens, Range, Ident, PeekSlice, PosPred, NegPred, Seq, Choice, Opt, Rep, RepOnce, RepExact, RepMin, RepMax, RepMinMax, Push, PushLiteral, NodeTag}
use Rattle.image.specs.Verdict.{passable}
use Rattle.image.specs.Grammar.{Grammar, Rule, expr_at, bits_at, root_at, text_of, find_rule}
use Rattle.tables.specs.Report.{report}
use Rattle.passes.specs.Report.{Result, refused, done}
use Rattle.passes.specs.LeftRecursion.{Sought, Seeker, is_on, or_if, or_else, check_on, check_rule, check_name, check_seq, check_expr, enter_if, enter, open_nodes, search_from, found_in, rule_from, left_recursion}
use Rattle.passes.proofs.FewReports.{Few, few-more, few-if}

-- the search for left recursion ends with 13 at most
abbrev Ends : Sought → Type 0
Ends a = a.end ≤ 13

abbrev Ender : Seeker → Type 0
Ender seek = (trail : List ℕ) (entered n : ℕ) → Ends (seek trail entered n)

or-ends : (a : Sought) (f : ℕ → Sought) → Ends a → ((e : ℕ) → Ends (f e)) → (t : Bool) → Ends (or_if t a f)
or-ends a f h k true = k a.entered
or-ends a f h k false = h

module _ (g : Grammar) (first : ℕ) (seek : Seeker) (h : Ender seek) (trail : List ℕ) (entered n : ℕ) where
  both_end : (left right : ℕ) → Ends (or_else (seek trail entered left) (λ e. seek trail e right))
  both_end left right =
      or-ends (seek trail entered left) (λ e. seek trail e right) (h trail entered left) (λ e. h trail e right) (eqb (seek trail entered left).end 0)

  seq-ends : (left right : ℕ) (t : Bool) → Ends (check_seq g first seek trail entered left right t)
  seq-ends left right true = both_end left right
  seq-ends left right false = h trail entered left

  name-ends : (found : Option ℕ) → Ends (check_name g first seek trail entered n found)
  name-ends None = omega arith
  name-ends (Some r) = here (eqb r first)
    where
      on : (t : Bool) → Ends (check_on g first seek trail entered r t)
      on true = omega arith
      on false = h (r ∷ trail) entered (root_at g r)

      here : (t : Bool) → Ends (check_rule g first seek trail entered n r t)
      here true = omega arith
      here false = on (is_on r trail)

  expr-ends : (e : Expr) → Ends (check_expr g first seek trail entered n e)
  unfolding check_expr
  expr-ends (Str at len) = omega arith
  expr-ends (Insens at len) = omega arith
  expr-ends Range = omega arith
  expr-ends (Ident at len) = name-ends (find_rule g (text_of g at len))
  expr-ends (PeekSlice start ends end) = omega arith
  expr-ends (PosPred part) = h trail entered part
  expr-ends (NegPred part) = h trail entered part
  expr-ends (Seq left right) = seq-ends left right (passable (bits_at g left))
  expr-ends (Choice left right) = both_end left right
  expr-ends (Opt part) = h trail entered part
  expr-ends (Rep part) = h trail entered part
  expr-ends (RepOnce part) = h trail entered part
  expr-ends (RepExact part count) = h trail entered part
  expr-ends (RepMin part count) = h trail entered part
  expr-ends (RepMax part count) = h trail entered part
  expr-ends (RepMinMax part least most) = h trail entered part
  expr-ends (Push part) = h trail entered part
  expr-ends (PushLiteral at len) = omega arith
  expr-ends (NodeTag part) = h trail entered part

enter-ends : (g : Grammar) (first left : ℕ) → Ender (enter g first left)
unfolding enter
enter-ends g first zero trail entered n = omega arith
enter-ends g first (suc left) trail entered n = go (enter-ends g first left) (ltb entered 65536)
  where
    go : Ender (enter g first left) → (t : Bool) → Ends (enter_if g first (λ tr e m. enter g first left tr e m) trail entered n t)
    go h true = expr-ends g first (λ tr e m. enter g first left tr e m) h trail (suc entered) n (expr_at g n)
    go h false = omega arith

search-ends : (g : Grammar) (i : ℕ) → Ends (search_from g i)
unfolding search_from
search-ends g i = enter-ends g i open_nodes (i ∷ []) 0 (root_at g i)

-- reason 5: one report a rule at most
few-found : (places most : ℕ) (found : List ℕ) (a : Sought) → length found ≤ most → (end : ℕ) → end ≤ 13 → Few (suc most) (found_in places found a end)
few-found places most found a h zero l = omega arith
few-found places most found a h (suc zero) l =
    few-if (suc most) (found ++ (report a.ident 0 5 ∷ [])) (omega (arith, length-append found (report a.ident 0 5 ∷ []))) (ltb (length found) places)
few-found places most found a h (suc (suc k)) l = (omega arith, l)

few-from : (m n : ℕ) (rest : List ℕ → Result) → ((found : List ℕ) → length found ≤ m → Few n (rest found)) → (a : Result) → Few m a → Few n (rule_from rest a)
few-from m n rest h (refused k) f = f
few-from m n rest h (done found) f = h found f

pub few-recursions : (g : Grammar) (places i most : ℕ) (rules : List Rule) (found : List ℕ) → length found ≤ most
    → Few (length rules + most) (left_recursion g places i rules found)
unfolding left_recursion
few-recursions g places i most [] found h = omega arith
few-recursions g places i most (r ∷ rules) found h =
    few-from (suc most) (suc (length rules) + most) rest
    (λ more k. few-more (length rules + suc most) (suc (length rules) + most) (omega arith) (rest more) (few-recursions g places (suc i) (suc most) rules more k))
    (found_in places found (search_from g i) (search_from g i).end)
    (few-found places most found (search_from g i) h (search_from g i).end (search-ends g i))
  where
    rest : List ℕ → Result
    rest more = left_recursion g places (suc i) rules more
