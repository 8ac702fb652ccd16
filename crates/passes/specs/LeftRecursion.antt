-- `left_recursion` (document 01, "Left recursion"): from each rule the search for an Ident that names it, with 12, then 13.
-- Assumes nothing.
use Rattle.std.specs.Prelude.{Bool, true, false, ◌||◌, List, [], ◌∷◌, ◌++◌, ℕ, zero, suc, eqb, ltb, length, Option, Some, None}
use Rattle.image.specs.declared.expr.Expr.{Expr}
use Rattle.image.specs.declared.expr.Expr.TheVariants.{Str, Insens, Range, Ident, PeekSlice, PosPred, NegPred, Seq, Choice, Opt, Rep, RepOnce, RepExact, RepMin, RepMax, RepMinMax, Push, PushLiteral, NodeTag}
use Rattle.image.specs.Verdict.{passable}
use Rattle.image.specs.Grammar.{Grammar, Rule, expr_at, bits_at, root_at, text_of, find_rule}
use Rattle.tables.specs.Report.{report}
use Rattle.passes.specs.Report.{Result, refused, done, place_if}

-- how a search ended: 0 nothing found, 1 found, 12 or 13 refused; the Ident found; the nodes entered; and the trail at the find,
-- the rules entered, newest first
pub record Sought : Type 0 where
  pub end : ℕ
  pub ident : ℕ
  pub entered : ℕ
  pub trail : List ℕ

abbrev pub stopped : ℕ → ℕ → Sought
stopped end entered = record { end = end; ident = 0; entered = entered; trail = [] }

-- trail, nodes entered, node
abbrev pub Seeker : Type 0
Seeker = List ℕ → ℕ → ℕ → Sought

abbrev pub is_on : ℕ → List ℕ → Bool
is_on r [] = false
is_on r (q ∷ trail) = eqb r q || is_on r trail

abbrev pub or_if : Bool → Sought → (ℕ → Sought) → Sought
or_if true a f = f a.entered
or_if false a f = a

-- the one side, or else the other
abbrev pub or_else : Sought → (ℕ → Sought) → Sought
or_else a f = or_if (eqb a.end 0) a f

module _ (g : Grammar) (first : ℕ) where
  -- "A rule already on the trail is not entered again"
  abbrev pub check_on : Seeker → List ℕ → ℕ → ℕ → Bool → Sought
  check_on seek trail entered r true = stopped 0 entered
  check_on seek trail entered r false = seek (r ∷ trail) entered (root_at g r)

  -- "meeting the first rule reports that Ident and ends that rule's search"
  abbrev pub check_rule : Seeker → List ℕ → ℕ → ℕ → ℕ → Bool → Sought
  check_rule seek trail entered n r true = record { end = 1; ident = n; entered = entered; trail = trail }
  check_rule seek trail entered n r false = check_on seek trail entered r (is_on r trail)

  abbrev pub check_name : Seeker → List ℕ → ℕ → ℕ → Option ℕ → Sought
  check_name seek trail entered n (Some r) = check_rule seek trail entered n r (eqb r first)
  check_name seek trail entered n None = stopped 0 entered

  -- "Seq goes on to its right side only if the left has bit 4"
  abbrev pub check_seq : Seeker → List ℕ → ℕ → ℕ → ℕ → Bool → Sought
  check_seq seek trail entered left right true = or_else (seek trail entered left) (λ e. seek trail e right)
  check_seq seek trail entered left right false = seek trail entered left

  -- `check_expr`
  unfoldable pub check_expr : Seeker → List ℕ → ℕ → ℕ → Expr → Sought
  check_expr seek trail entered n (Str at len) = stopped 0 entered
  check_expr seek trail entered n (Insens at len) = stopped 0 entered
  check_expr seek trail entered n Range = stopped 0 entered
  check_expr seek trail entered n (Ident at len) = check_name seek trail entered n (find_rule g (text_of g at len))
  check_expr seek trail entered n (PeekSlice start ends end) = stopped 0 entered
  check_expr seek trail entered n (PosPred part) = seek trail entered part
  check_expr seek trail entered n (NegPred part) = seek trail entered part
  check_expr seek trail entered n (Seq left right) = check_seq seek trail entered left right (passable (bits_at g left))
  check_expr seek trail entered n (Choice left right) = or_else (seek trail entered left) (λ e. seek trail e right)
  check_expr seek trail entered n (Opt part) = seek trail entered part
  check_expr seek trail entered n (Rep part) = seek trail entered part
  check_expr seek trail entered n (RepOnce part) = seek trail entered part
  check_expr seek trail entered n (RepExact part count) = seek trail entered part
  check_expr seek trail entered n (RepMin part count) = seek trail entered part
  check_expr seek trail entered n (RepMax part count) = seek trail entered part
  check_expr seek trail entered n (RepMinMax part least most) = seek trail entered part
  check_expr seek trail entered n (Push part) = seek trail entered part
  check_expr seek trail entered n (PushLiteral at len) = stopped 0 entered
  check_expr seek trail entered n (NodeTag part) = seek trail entered part

  -- "13: the left-recursion search from one rule enters a 65,537th node"
  abbrev pub enter_if : Seeker → List ℕ → ℕ → ℕ → Bool → Sought
  enter_if seek trail entered n true = check_expr seek trail (suc entered) n (expr_at g n)
  enter_if seek trail entered n false = stopped 13 entered

  -- entering a node while `left` more nodes may open: "in left recursion 12, then 13"
  unfoldable pub enter : ℕ → Seeker
  enter zero trail entered n = stopped 12 entered
  enter (suc left) trail entered n = enter_if (λ tr e m. enter left tr e m) trail entered n (ltb entered 65536)

-- nodes that may be open at once
abbrev pub open_nodes : ℕ
open_nodes = 256

-- the search from one rule, which is on the trail from the start
unfoldable pub search_from : Grammar → ℕ → Sought
search_from g i = enter g i open_nodes (i ∷ []) 0 (root_at g i)

-- "5 the Ident"; the search's own refusal; 10 where the report is due and no place is free
abbrev pub found_in : ℕ → List ℕ → Sought → ℕ → Result
found_in places found a zero = done found
found_in places found a (suc zero) = place_if (found ++ (report a.ident 0 5 ∷ [])) (ltb (length found) places)
found_in places found a (suc (suc k)) = refused (suc (suc k))

abbrev pub rule_from : (List ℕ → Result) → Result → Result
rule_from rest (refused k) = refused k
rule_from rest (done found) = rest found

-- rules in order, from number i on
unfoldable pub left_recursion : Grammar → ℕ → ℕ → List Rule → List ℕ → Result
left_recursion g places i [] found = done found
left_recursion g places i (r ∷ rules) found =
    rule_from (λ more. left_recursion g places (suc i) rules more) (found_in places found (search_from g i) (search_from g i).end)
