-- Laws of what is looked at in an expression: it settles an expression's word, and what the definition of `rule_modifies_stack` does. Assumes nothing.
use Prim.Native.Nat.{ℕ}
use mathlib.Core.Path.{◌≡◌, refl}
use mathlib.Core.Bool.{true, false}
use mathlib.Core.List.{List}
use Rattle.image.specs.declared.expr.Expr.{Expr}
use Rattle.image.specs.declared.expr.Expr.TheVariants.{Str, Insens, Range, Ident, PeekSlice, PosPred, NegPred, Seq, Choice, Opt, Rep, RepOnce, RepExact, RepMin, RepMax, RepMinMax, Push, PushLiteral, NodeTag}
use Rattle.image.specs.Grammar.{Grammar, text_of}
use Rattle.asking.specs.Modifies.{Looked, looked, or_else, name_modifies, expr_modifies}
use Rattle.reading.specs.declared.looks.Look.{Look}
use Rattle.reading.specs.declared.looks.Look.TheVariants.{Keeps, Changes, Named, One, Two}
use Rattle.reading.specs.Names.{name_word, word_of}
use Rattle.reading.specs.Looks.{look_of}

-- the word, by what is looked at
abbrev pub look_word : Grammar → Look → ℕ
look_word g Keeps = 0
look_word g Changes = 0
look_word g (Named at len) = name_word g (text_of g at len)
look_word g (One part) = 0
look_word g (Two left right) = 0

pub word-by-look : (g : Grammar) (e : Expr) → word_of g e ≡ look_word g (look_of e)
word-by-look g (Str at len) = refl
word-by-look g (Insens at len) = refl
word-by-look g Range = refl
word-by-look g (Ident at len) = refl
word-by-look g (PeekSlice start ends end) = refl
word-by-look g (PosPred part) = refl
word-by-look g (NegPred part) = refl
word-by-look g (Seq left right) = refl
word-by-look g (Choice left right) = refl
word-by-look g (Opt part) = refl
word-by-look g (Rep part) = refl
word-by-look g (RepOnce part) = refl
word-by-look g (RepExact part count) = refl
word-by-look g (RepMin part count) = refl
word-by-look g (RepMax part count) = refl
word-by-look g (RepMinMax part least most) = refl
word-by-look g (Push part) = refl
word-by-look g (PushLiteral at len) = refl
word-by-look g (NodeTag part) = refl

-- a name that is looked at is an Ident's
pub ident-of-look : (e : Expr) (a l : ℕ) → look_of e ≡ Named a l → e ≡ Ident a l
ident-of-look (Str at len) a l q = cc
ident-of-look (Insens at len) a l q = cc
ident-of-look Range a l q = cc
ident-of-look (Ident at len) a l q = cc
ident-of-look (PeekSlice start ends end) a l q = cc
ident-of-look (PosPred part) a l q = cc
ident-of-look (NegPred part) a l q = cc
ident-of-look (Seq left right) a l q = cc
ident-of-look (Choice left right) a l q = cc
ident-of-look (Opt part) a l q = cc
ident-of-look (Rep part) a l q = cc
ident-of-look (RepOnce part) a l q = cc
ident-of-look (RepExact part count) a l q = cc
ident-of-look (RepMin part count) a l q = cc
ident-of-look (RepMax part count) a l q = cc
ident-of-look (RepMinMax part least most) a l q = cc
ident-of-look (Push part) a l q = cc
ident-of-look (PushLiteral at len) a l q = cc
ident-of-look (NodeTag part) a l q = cc

-- what the definition does, by what is looked at
abbrev pub look_modifies : Grammar → (ℕ → List ℕ → Looked) → (ℕ → List ℕ → Looked) → Look → List ℕ → Looked
look_modifies g rule node Keeps seen = looked false seen
look_modifies g rule node Changes seen = looked true seen
look_modifies g rule node (Named at len) seen = name_modifies g rule (text_of g at len) seen
look_modifies g rule node (One part) seen = node part seen
look_modifies g rule node (Two left right) seen = or_else (node left seen) (node right)

pub expr-by-look :
    (g : Grammar) (rule node : ℕ → List ℕ → Looked) (e : Expr) (seen : List ℕ) →
    expr_modifies g rule node e seen ≡ look_modifies g rule node (look_of e) seen
unfolding expr_modifies
expr-by-look g rule node (Str at len) seen = refl
expr-by-look g rule node (Insens at len) seen = refl
expr-by-look g rule node Range seen = refl
expr-by-look g rule node (Ident at len) seen = refl
expr-by-look g rule node (PeekSlice start ends end) seen = refl
expr-by-look g rule node (PosPred part) seen = refl
expr-by-look g rule node (NegPred part) seen = refl
expr-by-look g rule node (Seq left right) seen = refl
expr-by-look g rule node (Choice left right) seen = refl
expr-by-look g rule node (Opt part) seen = refl
expr-by-look g rule node (Rep part) seen = refl
expr-by-look g rule node (RepOnce part) seen = refl
expr-by-look g rule node (RepExact part count) seen = refl
expr-by-look g rule node (RepMin part count) seen = refl
expr-by-look g rule node (RepMax part count) seen = refl
expr-by-look g rule node (RepMinMax part least most) seen = refl
expr-by-look g rule node (Push part) seen = refl
expr-by-look g rule node (PushLiteral at len) seen = refl
expr-by-look g rule node (NodeTag part) seen = refl
