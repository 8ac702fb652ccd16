-- The nodes that repeat a part without bound are Rep, RepOnce and RepMin of the image, and no numbers past its nodes. Assumes nothing.
use Rattle.std.specs.Prelude.{Option, Some, None}
use mathlib.Core.Path.{◌≡◌, refl, sym, ap, ◌∙◌}
use mathlib.Core.Bool.{Bool, true, false, not, cond, false≢true}
use mathlib.Core.List.{List}
use mathlib.Core.Logic.{◌⊎◌, inl, inr}
use Prim.Native.Nat.{ℕ, ◌<◌, ◌≤◌}
use native.Mathlib.Omega.{arith}
use lib.Dec.{eqb, ltb}
use lib.ListN.{length, get_or-eq_default}
use borrow.Author.Tests.{ltb-true, ltb-false}
use Rattle.image.specs.declared.expr.Expr.{Expr}
use Rattle.image.specs.declared.expr.Expr.TheVariants.{Str, Insens, Range, Ident, PeekSlice, PosPred, NegPred, Seq, Choice, Opt, Rep, RepOnce, RepExact, RepMin, RepMax, RepMinMax, Push, PushLiteral, NodeTag}
use Rattle.image.specs.Lists.{same}
use Rattle.image.specs.Grammar.{Grammar, Node, no_node, expr_at, text_of, find_rule}
use Rattle.machine.specs.Kind as K
use Rattle.asking.specs.Reading.{PEEK, PEEK-ALL, POP, POP-ALL, DROP, found_kind, name_kind, text_kind, slice_kind, kind_of, nodes_of}

-- a repetition of the part without bound
abbrev pub Repeats : ℕ → Expr → Type 0
Repeats part e = (e ≡ Rep part) ⊎ ((e ≡ RepOnce part) ⊎ ((count : ℕ) × (e ≡ RepMin part count)))

is_unbounded : K.Kind → Bool
is_unbounded (K.Unbounded part required) = true
is_unbounded K.InPlace = false
is_unbounded K.Match = false
is_unbounded K.Peek = false
is_unbounded K.PeekAll = false
is_unbounded K.Pop = false
is_unbounded K.PopAll = false
is_unbounded K.Drop = false
is_unbounded (K.Rule root) = false
is_unbounded (K.NodeTag part) = false
is_unbounded (K.PosPred part) = false
is_unbounded (K.NegPred part) = false
is_unbounded (K.Opt part) = false
is_unbounded (K.Push part) = false
is_unbounded (K.PushLiteral len) = false
is_unbounded (K.Seq left right) = false
is_unbounded (K.Choice left right) = false
is_unbounded (K.Bounded part required optional) = false

either-not : (t : Bool) (a b : K.Kind) → is_unbounded a ≡ false → is_unbounded b ≡ false → is_unbounded (cond t a b) ≡ false
either-not true a b h k = h
either-not false a b h k = k

found-not : (g : Grammar) (found : Option ℕ) → is_unbounded (found_kind g found) ≡ false
unfolding is_unbounded
found-not g (Some i) = refl
found-not g None = refl

name-not : (g : Grammar) (name : List ℕ) → is_unbounded (name_kind g name) ≡ false
unfolding name_kind is_unbounded
name-not g name =
    either-not (same name PEEK) K.Peek _ refl
    (either-not (same name PEEK-ALL) K.PeekAll _ refl
    (either-not (same name POP) K.Pop _ refl
    (either-not (same name POP-ALL) K.PopAll _ refl
    (either-not (same name DROP) K.Drop (found_kind g (find_rule g name)) refl (found-not g (find_rule g name))))))

text-not : (len : ℕ) → is_unbounded (text_kind len) ≡ false
unfolding is_unbounded
text-not len = either-not (eqb len 0) K.InPlace K.Match refl refl

slice-not : (a b c : Bool) → is_unbounded (slice_kind a b c) ≡ false
unfolding is_unbounded
slice-not true false c = refl
slice-not true true true = refl
slice-not true true false = refl
slice-not false b c = refl

not-unbounded : (kind : K.Kind) (part required : ℕ) → is_unbounded kind ≡ false → kind ≡ K.Unbounded part required → ⊥
unfolding is_unbounded
not-unbounded kind part required h e = false≢true (sym h ∙ ap is_unbounded e)

part-is : (a m part required : ℕ) → K.Unbounded a m ≡ K.Unbounded part required → a ≡ part
part-is a m part required e = cc

pub unbounded-repeats : (g : Grammar) (e : Expr) (part required : ℕ) → kind_of g e ≡ K.Unbounded part required → Repeats part e
unfolding kind_of is_unbounded
unbounded-repeats g (Str at len) part required k = absurd (not-unbounded (text_kind len) part required (text-not len) k)
unbounded-repeats g (Insens at len) part required k = absurd (not-unbounded (text_kind len) part required (text-not len) k)
unbounded-repeats g Range part required k = absurd (not-unbounded K.Match part required refl k)
unbounded-repeats g (Ident at len) part required k = absurd (not-unbounded (name_kind g (text_of g at len)) part required (name-not g (text_of g at len)) k)
unbounded-repeats g (PeekSlice start ends end) part required k =
    absurd (not-unbounded (slice_kind (eqb start 0) (not (eqb ends 0)) (eqb end 0)) part required
    (slice-not (eqb start 0) (not (eqb ends 0)) (eqb end 0)) k)
unbounded-repeats g (PosPred a) part required k = absurd (not-unbounded (K.PosPred a) part required refl k)
unbounded-repeats g (NegPred a) part required k = absurd (not-unbounded (K.NegPred a) part required refl k)
unbounded-repeats g (Seq a b) part required k = absurd (not-unbounded (K.Seq a b) part required refl k)
unbounded-repeats g (Choice a b) part required k = absurd (not-unbounded (K.Choice a b) part required refl k)
unbounded-repeats g (Opt a) part required k = absurd (not-unbounded (K.Opt a) part required refl k)
unbounded-repeats g (Rep a) part required k = inl (ap Rep (part-is a 0 part required k))
unbounded-repeats g (RepOnce a) part required k = inr (inl (ap RepOnce (part-is a 1 part required k)))
unbounded-repeats g (RepExact a count) part required k = absurd (not-unbounded (K.Bounded a count 0) part required refl k)
unbounded-repeats g (RepMin a count) part required k = inr (inr (count, ap (λ x. RepMin x count) (part-is a count part required k)))
unbounded-repeats g (RepMax a count) part required k = absurd (not-unbounded (K.Bounded a 0 count) part required refl k)
unbounded-repeats g (RepMinMax a least most) part required k = absurd (not-unbounded (kind_of g (RepMinMax a least most)) part required refl k)
unbounded-repeats g (Push a) part required k = absurd (not-unbounded (K.Push a) part required refl k)
unbounded-repeats g (PushLiteral at len) part required k = absurd (not-unbounded (K.PushLiteral len) part required refl k)
unbounded-repeats g (NodeTag a) part required k = absurd (not-unbounded (K.NodeTag a) part required refl k)

pub node-repeats : (g : Grammar) (n part required : ℕ) → (nodes_of g).at n ≡ K.Unbounded part required → Repeats part (expr_at g n)
unfolding nodes_of
node-repeats g n part required k = unbounded-repeats g (expr_at g n) part required k

-- past the last node stands a Range, which repeats nothing
past-range : (g : Grammar) (n : ℕ) → length g.nodes ≤ n → expr_at g n ≡ Range
unfolding expr_at
past-range g n h = ap (λ (v : Node). v.expr) (get_or-eq_default g.nodes no_node h)

range-not : (part : ℕ) (e : Expr) → e ≡ Range → Repeats part e → ⊥
range-not part e q (inl r) = let z : ◌≡◌ {A = ℕ} 0 1 = cc in omega arith
range-not part e q (inr (inl r)) = let z : ◌≡◌ {A = ℕ} 0 1 = cc in omega arith
range-not part e q (inr (inr (count, r))) = let z : ◌≡◌ {A = ℕ} 0 1 = cc in omega arith

pub repetition-node : (g : Grammar) (n part : ℕ) → Repeats part (expr_at g n) → n < length g.nodes
repetition-node g n part h = go (ltb n (length g.nodes)) refl
  where
    go : (t : Bool) → ltb n (length g.nodes) ≡ t → n < length g.nodes
    go true e = ltb-true n (length g.nodes) e
    go false e = absurd (range-not part (expr_at g n) (past-range g n (omega (arith, ltb-false n (length g.nodes) e))) h)
