-- `rule_modifies_stack` (document 01, "Outcomes", "Skips"): whether a rule may change the stack. It never gives 12. Assumes nothing.
use Rattle.std.specs.Prelude.{Bool, true, false, ◌||◌, List, [], ◌∷◌, ℕ, zero, suc, eqb, length, Option, Some, None}
use Rattle.image.specs.declared.expr.Expr.{Expr}
use Rattle.image.specs.declared.expr.Expr.TheVariants.{Str, Insens, Range, Ident, PeekSlice, PosPred, NegPred, Seq, Choice, Opt, Rep, RepOnce, RepExact, RepMin, RepMax, RepMinMax, Push, PushLiteral, NodeTag}
use Rattle.image.specs.Lists.{same}
use Rattle.image.specs.Grammar.{Grammar, expr_at, root_at, text_of, find_rule}
use Rattle.asking.specs.Reading.{POP, POP-ALL, DROP, WHITESPACE, COMMENT}

-- whether something that changes the stack was met, and the rules seen on the way
pub record Looked : Type 0 where
  pub modifies : Bool
  pub seen : List ℕ

abbrev pub looked : Bool → List ℕ → Looked
looked modifies seen = record { modifies = modifies; seen = seen }

abbrev pub is_in : ℕ → List ℕ → Bool
is_in i [] = false
is_in i (j ∷ js) = eqb i j || is_in i js

abbrev pub or_if : Bool → List ℕ → (List ℕ → Looked) → Looked
or_if true seen f = looked true seen
or_if false seen f = f seen

-- the one, or else the other
abbrev pub or_else : Looked → (List ℕ → Looked) → Looked
or_else a f = or_if a.modifies a.seen f

module _ (g : Grammar) where
  -- a rule by its number; one that was seen is not looked into again
  abbrev pub new_rule : (ℕ → List ℕ → Looked) → ℕ → List ℕ → Bool → Looked
  new_rule node i seen true = looked false seen
  new_rule node i seen false = node (root_at g i) (i ∷ seen)

  abbrev pub found_modifies : (ℕ → List ℕ → Looked) → List ℕ → Option ℕ → Looked
  found_modifies rule seen (Some i) = rule i seen
  found_modifies rule seen None = looked false seen

  -- POP, DROP and POP_ALL change the stack; any other name is a rule's
  abbrev pub name_if : (ℕ → List ℕ → Looked) → List ℕ → List ℕ → Bool → Looked
  name_if rule name seen true = looked true seen
  name_if rule name seen false = found_modifies rule seen (find_rule g name)

  abbrev pub name_modifies : (ℕ → List ℕ → Looked) → List ℕ → List ℕ → Looked
  name_modifies rule name seen = name_if rule name seen (same name POP || same name DROP || same name POP-ALL)

  -- predicates restore the stack; counts are not looked at
  unfoldable pub expr_modifies : (ℕ → List ℕ → Looked) → (ℕ → List ℕ → Looked) → Expr → List ℕ → Looked
  expr_modifies rule node (Str at len) seen = looked false seen
  expr_modifies rule node (Insens at len) seen = looked false seen
  expr_modifies rule node Range seen = looked false seen
  expr_modifies rule node (Ident at len) seen = name_modifies rule (text_of g at len) seen
  expr_modifies rule node (PeekSlice start ends end) seen = looked false seen
  expr_modifies rule node (PosPred part) seen = looked false seen
  expr_modifies rule node (NegPred part) seen = looked false seen
  expr_modifies rule node (Seq left right) seen = or_else (node left seen) (node right)
  expr_modifies rule node (Choice left right) seen = or_else (node left seen) (node right)
  expr_modifies rule node (Opt part) seen = node part seen
  expr_modifies rule node (Rep part) seen = node part seen
  expr_modifies rule node (RepOnce part) seen = node part seen
  expr_modifies rule node (RepExact part count) seen = node part seen
  expr_modifies rule node (RepMin part count) seen = node part seen
  expr_modifies rule node (RepMax part count) seen = node part seen
  expr_modifies rule node (RepMinMax part least most) seen = node part seen
  expr_modifies rule node (Push part) seen = looked true seen
  expr_modifies rule node (PushLiteral at len) seen = looked true seen
  expr_modifies rule node (NodeTag part) seen = node part seen

  -- a node below a bound: a part's number is below its node's
  unfoldable pub node_modifies : (ℕ → List ℕ → Looked) → ℕ → ℕ → List ℕ → Looked
  node_modifies rule zero n seen = looked false seen
  node_modifies rule (suc bound) n seen = expr_modifies rule (node_modifies rule bound) (expr_at g n) seen

  -- a rule, while at most `unseen` rules have not been seen
  unfoldable pub rule_modifies : ℕ → ℕ → List ℕ → Looked
  rule_modifies zero i seen = looked false seen
  rule_modifies (suc unseen) i seen = new_rule (λ n sn. node_modifies (rule_modifies unseen) (suc n) n sn) i seen (is_in i seen)

  -- "If either may change the stack"
  unfoldable pub skips_modify : Bool
  skips_modify =
      let rule : ℕ → List ℕ → Looked = rule_modifies (length g.rules) in
      (or_else (name_modifies rule WHITESPACE []) (λ seen. name_modifies rule COMMENT seen)).modifies
