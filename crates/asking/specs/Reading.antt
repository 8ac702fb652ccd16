-- From the image's grammar to what its nodes are: built-in stack names before rules, slices, bounds. Assumes nothing.
use Rattle.std.specs.Prelude.{ℕ, ◌-◌, min, Bool, true, false, ◌||◌, not, cond, List, [], ◌∷◌, eqb, Option, Some, None}
use Rattle.image.specs.declared.expr.Expr.{Expr}
use Rattle.image.specs.declared.expr.Expr.TheVariants.{Str, Insens, Range, Ident, PeekSlice, PosPred, NegPred, Seq, Choice, Opt, Rep, RepOnce, RepExact, RepMin, RepMax, RepMinMax, Push, PushLiteral, NodeTag}
use Rattle.image.specs.Lists.{same}
use Rattle.image.specs.Verdict.{cannot_fail, not_progressing}
use Rattle.image.specs.Grammar.{Grammar, expr_at, bits_at, root_at, text_of, find_rule}
use Rattle.machine.specs.Kind.{Nodes}
use Rattle.machine.specs.Kind as K

-- names as bytes
abbrev pub PEEK : List ℕ
PEEK = 80 ∷ 69 ∷ 69 ∷ 75 ∷ []

abbrev pub PEEK-ALL : List ℕ
PEEK-ALL = 80 ∷ 69 ∷ 69 ∷ 75 ∷ 95 ∷ 65 ∷ 76 ∷ 76 ∷ []

abbrev pub POP : List ℕ
POP = 80 ∷ 79 ∷ 80 ∷ []

abbrev pub POP-ALL : List ℕ
POP-ALL = 80 ∷ 79 ∷ 80 ∷ 95 ∷ 65 ∷ 76 ∷ 76 ∷ []

abbrev pub DROP : List ℕ
DROP = 68 ∷ 82 ∷ 79 ∷ 80 ∷ []

abbrev pub WHITESPACE : List ℕ
WHITESPACE = 87 ∷ 72 ∷ 73 ∷ 84 ∷ 69 ∷ 83 ∷ 80 ∷ 65 ∷ 67 ∷ 69 ∷ []

abbrev pub COMMENT : List ℕ
COMMENT = 67 ∷ 79 ∷ 77 ∷ 77 ∷ 69 ∷ 78 ∷ 84 ∷ []

-- a name that is none of the built-in stack names: a rule's, or unknown
abbrev pub found_kind : Grammar → Option ℕ → K.Kind
found_kind g (Some i) = K.Rule (root_at g i)
found_kind g None = K.Match

-- "Built-in stack names come before rules."
unfoldable pub name_kind : Grammar → List ℕ → K.Kind
name_kind g name =
    let rule : K.Kind = found_kind g (find_rule g name) in
    let from-drop : K.Kind = cond (same name DROP) K.Drop rule in
    let from-pop-all : K.Kind = cond (same name POP-ALL) K.PopAll from-drop in
    let from-pop : K.Kind = cond (same name POP) K.Pop from-pop-all in
    let from-peek-all : K.Kind = cond (same name PEEK-ALL) K.PeekAll from-pop in
    cond (same name PEEK) K.Peek from-peek-all

-- "Str or Insens of length 0 succeed in place"
abbrev pub text_kind : ℕ → K.Kind
text_kind len = cond (eqb len 0) K.InPlace K.Match

-- "PeekSlice 0 without end is PEEK_ALL; 0 to 0 succeeds." Other slices fail or move on.
abbrev pub slice_kind : Bool → Bool → Bool → K.Kind
slice_kind true false c = K.PeekAll
slice_kind true true true = K.InPlace
slice_kind true true false = K.Match
slice_kind false b c = K.Match

-- "RepMinMax with min above max: max required copies, none optional."
abbrev pub bounded_kind : ℕ → ℕ → ℕ → K.Kind
bounded_kind part least most = K.Bounded part (min least most) (most - min least most)

unfoldable pub kind_of : Grammar → Expr → K.Kind
kind_of g (Str at len) = text_kind len
kind_of g (Insens at len) = text_kind len
kind_of g Range = K.Match
kind_of g (Ident at len) = name_kind g (text_of g at len)
kind_of g (PeekSlice start ends end) = slice_kind (eqb start 0) (not (eqb ends 0)) (eqb end 0)
kind_of g (PosPred part) = K.PosPred part
kind_of g (NegPred part) = K.NegPred part
kind_of g (Seq left right) = K.Seq left right
kind_of g (Choice left right) = K.Choice left right
kind_of g (Opt part) = K.Opt part
kind_of g (Rep part) = K.Unbounded part 0
kind_of g (RepOnce part) = K.Unbounded part 1
kind_of g (RepExact part count) = K.Bounded part count 0
kind_of g (RepMin part count) = K.Unbounded part count
kind_of g (RepMax part count) = K.Bounded part 0 count
kind_of g (RepMinMax part least most) = bounded_kind part least most
kind_of g (Push part) = K.Push part
kind_of g (PushLiteral at len) = K.PushLiteral len
kind_of g (NodeTag part) = K.NodeTag part

abbrev pub kind_at : Grammar → ℕ → K.Kind
kind_at g n = kind_of g (expr_at g n)

-- "Skips (WHITESPACE or COMMENT a rule)"
abbrev pub is_rule : Option ℕ → Bool
is_rule (Some i) = true
is_rule None = false

unfoldable pub skips_of : Grammar → Bool
skips_of g = is_rule (find_rule g WHITESPACE) || is_rule (find_rule g COMMENT)

unfoldable pub nodes_of : Grammar → Nodes
nodes_of g = record { at = kind_at g; skips = skips_of g }

-- "A report is held back if the body has bit 1 or 2"
unfoldable pub held_back : Grammar → ℕ → Bool
held_back g part = cannot_fail (bits_at g part) || not_progressing (bits_at g part)
