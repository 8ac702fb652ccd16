-- The rule that owns a node: the one whose root is reached by going from each node to the one it is a part of. Assumes nothing.
use Rattle.std.specs.Prelude.{ℕ, zero, suc, List, [], ◌∷◌, Bool, false, cond, ◌||◌, eqb, length}
use Rattle.image.specs.declared.expr.Expr.{Expr}
use Rattle.image.specs.Kinds.{parts_of}
use Rattle.image.specs.Grammar.{Grammar, expr_at, root_at}

-- n stands in a list
abbrev pub is_in : ℕ → List ℕ → Bool
is_in n [] = false
is_in n (p ∷ ps) = eqb p n || is_in n ps

-- n is a part of an expression
abbrev pub is_part : ℕ → Expr → Bool
is_part n e = is_in n (parts_of e)

-- the node reached from n by way of the nodes below m, in their order
unfoldable pub top_to : Grammar → ℕ → ℕ → ℕ
top_to g n zero = n
top_to g n (suc m) = cond (is_part (top_to g n m) (expr_at g m)) m (top_to g n m)

-- the root above n. Parts are below their nodes, so no node is passed before its parts.
abbrev pub top : Grammar → ℕ → ℕ
top g n = top_to g n (length g.nodes)

-- of the rules below i the last one with a root, 0 for none
unfoldable pub rule_to : Grammar → ℕ → ℕ → ℕ
rule_to g root zero = 0
rule_to g root (suc i) = cond (eqb (root_at g i) root) i (rule_to g root i)

-- the rule with a root. (In an accepted image no two rules share one.)
abbrev pub rule_of : Grammar → ℕ → ℕ
rule_of g root = rule_to g root (length g.rules)

-- the rule that owns n
abbrev pub owner : Grammar → ℕ → ℕ
owner g n = rule_of g (top g n)
