-- Every node that a pass names is a node of the grammar: the nodes that are walked top down, the judged sides, and the Ident that is
-- found. Assumes nothing.
use Rattle.std.specs.Prelude.{Option, Some, None}
use mathlib.Core.Path.{◌≡◌, refl}
use mathlib.Core.Bool.{Bool, true, false, cond, false≢true}
use mathlib.Core.List.{List, [], ◌∷◌}
use Prim.Native.Nat.{ℕ, zero, suc, ◌<◌}
use native.Mathlib.Omega.{arith}
use lib.Dec.{eqb, ltb}
use lib.ListN.{length}
use Rattle.image.specs.declared.expr.Expr.{Expr}
use Rattle.image.specs.declared.expr.Expr.TheVariants.{Str, Insens, Range, Ident, PeekSlice, PosPred, NegPred, Seq, Choice, Opt, Rep, RepOnce, RepExact, RepMin, RepMax, RepMinMax, Push, PushLiteral, NodeTag}
use Rattle.image.specs.Lists.{AllBelow}
use Rattle.image.specs.Kinds.{numbers_of, parts_of}
use Rattle.image.specs.Verdict.{passable}
use Rattle.image.specs.Grammar.{Grammar, Rule, no_rule, expr_at, bits_at, root_at, text_of, find_rule, Says}
use Rattle.image.specs.Formed.{Formed}
use Rattle.image.proofs.FindLaws.{says}
use Rattle.passes.specs.TopDown.{parts_down, down, top_down, nodes_down, is_choice, judged_side}
use Rattle.passes.specs.LeftRecursion.{Sought, Seeker, is_on, or_if, or_else, check_on, check_rule, check_name, check_seq, check_expr, enter_if, enter, open_nodes, search_from}
use Rattle.demands.proofs.Lists.{Every, every-numbered, every-or-none, every-flat}

-- a node of the grammar
abbrev pub IsNode : Grammar → ℕ → Type 0
IsNode g n = n < length g.nodes

-- both parts of a Choice are parts
choice-below : (n : ℕ) (e : Expr) → is_choice e ≡ true → AllBelow n (parts_of e) → ((numbers_of e).a < n) × ((numbers_of e).b < n)
choice-below n (Str at len) e h = absurd (false≢true e)
choice-below n (Insens at len) e h = absurd (false≢true e)
choice-below n Range e h = absurd (false≢true e)
choice-below n (Ident at len) e h = absurd (false≢true e)
choice-below n (PeekSlice start ends end) e h = absurd (false≢true e)
choice-below n (PosPred part) e h = absurd (false≢true e)
choice-below n (NegPred part) e h = absurd (false≢true e)
choice-below n (Seq left right) e h = absurd (false≢true e)
choice-below n (Choice left right) e h = (h.0, h.1.0)
choice-below n (Opt part) e h = absurd (false≢true e)
choice-below n (Rep part) e h = absurd (false≢true e)
choice-below n (RepOnce part) e h = absurd (false≢true e)
choice-below n (RepExact part count) e h = absurd (false≢true e)
choice-below n (RepMin part count) e h = absurd (false≢true e)
choice-below n (RepMax part count) e h = absurd (false≢true e)
choice-below n (RepMinMax part least most) e h = absurd (false≢true e)
choice-below n (Push part) e h = absurd (false≢true e)
choice-below n (PushLiteral at len) e h = absurd (false≢true e)
choice-below n (NodeTag part) e h = absurd (false≢true e)

module _ (g : Grammar) (formed : Formed g) where
  parts-nodes : (n : ℕ) → IsNode g n → (xs : List ℕ) → AllBelow n xs → Every (IsNode g) xs
  parts-nodes n h [] k = tt
  parts-nodes n h (x ∷ xs) k = let l = k.0 in (omega arith, parts-nodes n h xs k.1)

  -- the parts of a node are nodes
  parts-of-node : (n : ℕ) → IsNode g n → Every (IsNode g) (parts_of (expr_at g n))
  parts-of-node n h = parts-nodes n h (parts_of (expr_at g n)) (formed.node n h).below

  -- top down
  down-nodes : (bound n : ℕ) → IsNode g n → Every (IsNode g) (down g bound n)
  unfolding down
  down-nodes zero n h = tt
  down-nodes (suc bound) n h = (
    h,
    every-flat (IsNode g) (IsNode g) (down g bound) (down-nodes bound) (parts_down (expr_at g n))
        (every-or-none (IsNode g) (eqb (numbers_of (expr_at g n)).kind 19) (parts_of (expr_at g n)) (parts-of-node n h)),
  )

  -- the roots of rules are nodes
  pub root-node : (i : ℕ) → i < length g.rules → IsNode g (root_at g i)
  root-node i l = (formed.rule i l).rooted

  roots-nodes : Every (λ (r : Rule). IsNode g r.root) g.rules
  unfolding root_at
  roots-nodes = every-numbered (λ (r : Rule). IsNode g r.root) no_rule g.rules root-node

  pub walked-nodes : Every (IsNode g) (nodes_down g)
  unfolding nodes_down
  walked-nodes =
      every-flat (λ (r : Rule). IsNode g r.root) (IsNode g) (λ r. top_down g r.root) (λ r h. down-nodes (suc r.root) r.root h) g.rules roots-nodes

  -- the judged side of a Choice
  pub judged-node : (n : ℕ) → IsNode g n → is_choice (expr_at g n) ≡ true → IsNode g (judged_side g (numbers_of (expr_at g n)).a)
  unfolding judged_side
  judged-node n h e = go (is_choice (expr_at g left)) refl
    where
      left : ℕ
      left = (numbers_of (expr_at g n)).a

      left-node : IsNode g left
      left-node = let l = (choice-below n (expr_at g n) e (formed.node n h).below).0 in omega arith

      go : (t : Bool) → is_choice (expr_at g left) ≡ t → IsNode g (cond t (numbers_of (expr_at g left)).b left)
      go true q =
          let l = (choice-below left (expr_at g left) q (formed.node left left-node).below).1 in
          let right-node : IsNode g (numbers_of (expr_at g left)).b = omega (arith, left-node) in
          right-node
      go false q = left-node

  -- what a search has found is a node, wherever it began
  abbrev Finds : Sought → Type 0
  Finds a = IsNode g a.ident

  abbrev Finder : Seeker → Type 0
  Finder seek = (trail : List ℕ) (entered n : ℕ) → IsNode g n → Finds (seek trail entered n)

  module _ (first : ℕ) where
    or-finds : (a : Sought) (f : ℕ → Sought) → Finds a → ((entered : ℕ) → Finds (f entered)) → Finds (or_else a f)
    or-finds a f h k = go (eqb a.end 0)
      where
        go : (t : Bool) → Finds (or_if t a f)
        go true = k a.entered
        go false = h

    name-finds : (seek : Seeker) → Finder seek → (trail : List ℕ) (entered n : ℕ) → IsNode g n → (name : List ℕ) (found : Option ℕ) → Says g name found
        → Finds (check_name g first seek trail entered n found)
    name-finds seek h trail entered n l name (Some r) s = met (eqb r first)
      where
        on : (t : Bool) → Finds (check_on g first seek trail entered r t)
        on true = omega arith
        on false = h (r ∷ trail) entered (root_at g r) (root-node r s.0)

        met : (t : Bool) → Finds (check_rule g first seek trail entered n r t)
        met true = l
        met false = on (is_on r trail)
    name-finds seek h trail entered n l name None s = omega arith

    seq-finds : (seek : Seeker) → Finder seek → (trail : List ℕ) (entered left right : ℕ) → IsNode g left → IsNode g right → (t : Bool)
        → Finds (check_seq g first seek trail entered left right t)
    seq-finds seek h trail entered left right l r true =
        or-finds (seek trail entered left) (λ e. seek trail e right) (h trail entered left l) (λ e. h trail e right r)
    seq-finds seek h trail entered left right l r false = h trail entered left l

    expr-finds : (seek : Seeker) → Finder seek → (trail : List ℕ) (entered n : ℕ) → IsNode g n → (e : Expr) → Every (IsNode g) (parts_of e)
        → Finds (check_expr g first seek trail entered n e)
    unfolding check_expr
    expr-finds seek h trail entered n l (Str at len) k = omega arith
    expr-finds seek h trail entered n l (Insens at len) k = omega arith
    expr-finds seek h trail entered n l Range k = omega arith
    expr-finds seek h trail entered n l (Ident at len) k =
        name-finds seek h trail entered n l (text_of g at len) (find_rule g (text_of g at len)) (says g (text_of g at len))
    expr-finds seek h trail entered n l (PeekSlice start ends end) k = omega arith
    expr-finds seek h trail entered n l (PosPred part) k = h trail entered part k.0
    expr-finds seek h trail entered n l (NegPred part) k = h trail entered part k.0
    expr-finds seek h trail entered n l (Seq left right) k = seq-finds seek h trail entered left right k.0 k.1.0 (passable (bits_at g left))
    expr-finds seek h trail entered n l (Choice left right) k = seq-finds seek h trail entered left right k.0 k.1.0 true
    expr-finds seek h trail entered n l (Opt part) k = h trail entered part k.0
    expr-finds seek h trail entered n l (Rep part) k = h trail entered part k.0
    expr-finds seek h trail entered n l (RepOnce part) k = h trail entered part k.0
    expr-finds seek h trail entered n l (RepExact part count) k = h trail entered part k.0
    expr-finds seek h trail entered n l (RepMin part count) k = h trail entered part k.0
    expr-finds seek h trail entered n l (RepMax part count) k = h trail entered part k.0
    expr-finds seek h trail entered n l (RepMinMax part least most) k = h trail entered part k.0
    expr-finds seek h trail entered n l (Push part) k = h trail entered part k.0
    expr-finds seek h trail entered n l (PushLiteral at len) k = omega arith
    expr-finds seek h trail entered n l (NodeTag part) k = h trail entered part k.0

    if-finds : (seek : Seeker) → Finder seek → (trail : List ℕ) (entered n : ℕ) → IsNode g n → (t : Bool)
        → Finds (enter_if g first seek trail entered n t)
    if-finds seek h trail entered n l true = expr-finds seek h trail (suc entered) n l (expr_at g n) (parts-of-node n l)
    if-finds seek h trail entered n l false = omega arith

    -- while so many more nodes may open
    enter-finds : (left : ℕ) → Finder (enter g first left)
    unfolding enter
    enter-finds zero trail entered n l = omega arith
    enter-finds (suc left) trail entered n l = if-finds (λ tr e m. enter g first left tr e m) (enter-finds left) trail entered n l (ltb entered 65536)

  -- the Ident of left recursion
  pub ident-node : (i : ℕ) → i < length g.rules → IsNode g (search_from g i).ident
  unfolding search_from
  ident-node i l = enter-finds i open_nodes (i ∷ []) 0 (root_at g i) (root-node i l)
