-- What each case of the enum Kind stands for, and what a reading of a node has to be.
use Rattle.std.specs.Prelude.{ℕ, ◌+◌, ◌^◌, ◌<◌, ◌≡◌, Bool, true, false, ◌&&◌, eqb}
use Rattle.image.specs.declared.expr.Expr.{Expr}
use Rattle.image.specs.declared.expr.Expr.TheVariants as E
use Rattle.machine.specs.Kind as K
use Rattle.reading.specs.declared.kinds.Kind.{Kind}
use Rattle.reading.specs.declared.kinds.Kind.TheVariants.{InPlace, Match, Ident, NodeTag, PosPred, NegPred, Opt, Push, PushLiteral, Seq, Choice, Unbounded, Bounded}
use Rattle.reading.specs.Names.{name_is, NameBelow}

-- what each case of the enum Kind is to the stack pass
abbrev pub kind_is : Kind → K.Kind
kind_is InPlace = K.InPlace
kind_is Match = K.Match
kind_is (Ident name) = name_is name
kind_is (NodeTag part) = K.NodeTag part
kind_is (PosPred part) = K.PosPred part
kind_is (NegPred part) = K.NegPred part
kind_is (Opt part) = K.Opt part
kind_is (Push part) = K.Push part
kind_is (PushLiteral len) = K.PushLiteral len
kind_is (Seq left right) = K.Seq left right
kind_is (Choice left right) = K.Choice left right
kind_is (Unbounded part required) = K.Unbounded part required
kind_is (Bounded part required optional) = K.Bounded part required optional

-- every part is below n, a rule's root is below the node count, and the copies of a bounded repetition can be counted in 64 bits
abbrev pub KindBelow : ℕ → ℕ → Kind → Type 0
KindBelow count n InPlace = Unit {0}
KindBelow count n Match = Unit {0}
KindBelow count n (Ident name) = NameBelow count name
KindBelow count n (NodeTag part) = part < n
KindBelow count n (PosPred part) = part < n
KindBelow count n (NegPred part) = part < n
KindBelow count n (Opt part) = part < n
KindBelow count n (Push part) = part < n
KindBelow count n (PushLiteral len) = Unit {0}
KindBelow count n (Seq left right) = (left < n) × (right < n)
KindBelow count n (Choice left right) = (left < n) × (right < n)
KindBelow count n (Unbounded part required) = part < n
KindBelow count n (Bounded part required optional) = (part < n) × (required + optional < 2 ^ 64)

-- a kind that is a name. (An unknown name is to the stack pass what a match is; this tells the two apart.)
abbrev pub is_name : Kind → Bool
is_name InPlace = false
is_name Match = false
is_name (Ident name) = true
is_name (NodeTag part) = false
is_name (PosPred part) = false
is_name (NegPred part) = false
is_name (Opt part) = false
is_name (Push part) = false
is_name (PushLiteral len) = false
is_name (Seq left right) = false
is_name (Choice left right) = false
is_name (Unbounded part required) = false
is_name (Bounded part required optional) = false

-- the expressions that are read as a name: an Ident, and slice 0 without end, which is PEEK_ALL
abbrev pub read_as_name : Expr → Bool
read_as_name (E.Str at len) = false
read_as_name (E.Insens at len) = false
read_as_name E.Range = false
read_as_name (E.Ident at len) = true
read_as_name (E.PeekSlice start ends end) = eqb start 0 && eqb ends 0
read_as_name (E.PosPred part) = false
read_as_name (E.NegPred part) = false
read_as_name (E.Seq left right) = false
read_as_name (E.Choice left right) = false
read_as_name (E.Opt part) = false
read_as_name (E.Rep part) = false
read_as_name (E.RepOnce part) = false
read_as_name (E.RepExact part count) = false
read_as_name (E.RepMin part count) = false
read_as_name (E.RepMax part count) = false
read_as_name (E.RepMinMax part least most) = false
read_as_name (E.Push part) = false
read_as_name (E.PushLiteral at len) = false
read_as_name (E.NodeTag part) = false

-- a reading of node n of a grammar of `count` nodes: what it is, whether it is a name, and that what it names is below
pub record Reads (kind : K.Kind) (name : Bool) (count n : ℕ) (r : Kind) : Type 0 where
  pub is : kind_is r ≡ kind
  pub named : is_name r ≡ name
  pub below : KindBelow count n r
