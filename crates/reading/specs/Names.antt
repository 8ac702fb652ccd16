-- Names resolved once: the word of each name, what an array of words must hold, and what each case of the enum Name stands for.
use Rattle.std.specs.Prelude.{Bool, true, false, ℕ, ◌+◌, ◌-◌, ◌*◌, ◌%◌, ◌≤◌, ◌<◌, ◌≡◌, cond, List, eqb, length, get_or, Option, Some, None}
use Rattle.image.specs.declared.expr.Expr.{Expr}
use Rattle.image.specs.declared.expr.Expr.TheVariants.{Str, Insens, Range, Ident, PeekSlice, PosPred, NegPred, Seq, Choice, Opt, Rep, RepOnce, RepExact, RepMin, RepMax, RepMinMax, Push, PushLiteral, NodeTag}
use Rattle.image.specs.Lists.{same}
use Rattle.image.specs.Grammar.{Grammar, expr_at, text_of, find_rule}
use Rattle.asking.specs.Reading.{PEEK, PEEK-ALL, POP, POP-ALL, DROP}
use Rattle.machine.specs.Kind as K
use Rattle.reading.specs.declared.names.StackName.{StackName}
use Rattle.reading.specs.declared.names.StackName.TheVariants as B
use Rattle.reading.specs.declared.names.Name.{Name}
use Rattle.reading.specs.declared.names.Name.TheVariants.{Stack, Rule, Unknown}

-- the built-in stack names by number: 1 PEEK, 2 PEEK_ALL, 3 POP, 4 POP_ALL, 5 DROP; any other name has 0
unfoldable pub builtin_number : List ℕ → ℕ
builtin_number name =
    let from-drop : ℕ = cond (same name DROP) 5 0 in
    let from-pop-all : ℕ = cond (same name POP-ALL) 4 from-drop in
    let from-pop : ℕ = cond (same name POP) 3 from-pop-all in
    let from-peek-all : ℕ = cond (same name PEEK-ALL) 2 from-pop in
    cond (same name PEEK) 1 from-peek-all

-- the number of each case of the enum StackName, and of none
abbrev pub number_of : Option StackName → ℕ
number_of None = 0
number_of (Some B.Peek) = 1
number_of (Some B.PeekAll) = 2
number_of (Some B.Pop) = 3
number_of (Some B.PopAll) = 4
number_of (Some B.Drop) = 5

-- POP, POP_ALL and DROP change the stack
abbrev pub changes : StackName → Bool
changes B.Peek = false
changes B.PeekAll = false
changes B.Pop = true
changes B.PopAll = true
changes B.Drop = true

-- one more than the number of a rule, 0 for none
abbrev pub found_number : Option ℕ → ℕ
found_number (Some i) = i + 1
found_number None = 0

-- the word of a name: built-in × 512 + rule
unfoldable pub name_word : Grammar → List ℕ → ℕ
name_word g name = builtin_number name * 512 + found_number (find_rule g name)

-- the word of a node: an Ident's is that of its name, any other's is 0
abbrev pub word_of : Grammar → Expr → ℕ
word_of g (Str at len) = 0
word_of g (Insens at len) = 0
word_of g Range = 0
word_of g (Ident at len) = name_word g (text_of g at len)
word_of g (PeekSlice start ends end) = 0
word_of g (PosPred part) = 0
word_of g (NegPred part) = 0
word_of g (Seq left right) = 0
word_of g (Choice left right) = 0
word_of g (Opt part) = 0
word_of g (Rep part) = 0
word_of g (RepOnce part) = 0
word_of g (RepExact part count) = 0
word_of g (RepMin part count) = 0
word_of g (RepMax part count) = 0
word_of g (RepMinMax part least most) = 0
word_of g (Push part) = 0
word_of g (PushLiteral at len) = 0
word_of g (NodeTag part) = 0

-- the word that stands at n: a node's own, and 0 past the last node
pub record WordAt (g : Grammar) (n word : ℕ) : Type 0 where
  pub node : n < length g.nodes → word ≡ word_of g (expr_at g n)
  pub rest : length g.nodes ≤ n → word ≡ 0

-- an array that holds the word of every node, and nothing else
pub record Resolved (g : Grammar) (names : List ℕ) : Type 0 where
  pub long : length names ≡ 2048
  pub each : (n : ℕ) → n < 2048 → WordAt g n (get_or names n 0)

-- the rule that a word tells
abbrev pub found_in : ℕ → Option ℕ
found_in word = cond (eqb (word % 512) 0) None (Some (word % 512 - 1))

-- a rule that was found has a number below a bound
abbrev pub FoundBelow : ℕ → Option ℕ → Type 0
FoundBelow count (Some i) = i < count
FoundBelow count None = Unit {0}

-- what each case of the enum Name is to the stack pass; a rule's name is its root
abbrev pub name_is : Name → K.Kind
name_is (Stack B.Peek) = K.Peek
name_is (Stack B.PeekAll) = K.PeekAll
name_is (Stack B.Pop) = K.Pop
name_is (Stack B.PopAll) = K.PopAll
name_is (Stack B.Drop) = K.Drop
name_is (Rule root) = K.Rule root
name_is Unknown = K.Match

-- a rule's root is below the node count
abbrev pub NameBelow : ℕ → Name → Type 0
NameBelow count (Stack name) = Unit {0}
NameBelow count (Rule root) = root < count
NameBelow count Unknown = Unit {0}
