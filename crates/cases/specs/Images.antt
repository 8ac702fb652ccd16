-- Images written from their fields: the table of contents, rules, nodes, text (document 01, "The node image"). Assumes nothing.
use Rattle.std.specs.Prelude.{List, [], ◌∷◌, ◌++◌, ℕ, ◌+◌, ◌*◌, ◌/◌, ◌%◌, length}

-- 32 bits, little-endian
abbrev pub u32 : ℕ → List ℕ
u32 x = x % 256 ∷ x / 256 % 256 ∷ x / 65536 % 256 ∷ x / 16777216 % 256 ∷ []

-- name position in the text, name length, root
abbrev pub rule : ℕ → ℕ → ℕ → List ℕ
rule at len root = u32 at ++ u32 len ++ u32 root

-- kind, A, B, C of a node with bits clear and the span 0 to 0
abbrev pub node : ℕ → ℕ → ℕ → ℕ → List ℕ
node kind a b c = kind ∷ 0 ∷ 0 ∷ 0 ∷ (u32 a ++ u32 b ++ u32 c ++ u32 0 ++ u32 0)

abbrev pub joined : List (List ℕ) → List ℕ
joined [] = []
joined (b ∷ bs) = b ++ joined bs

abbrev pub image_of : List (List ℕ) → List (List ℕ) → List ℕ → List ℕ
image_of rules nodes text =
    u32 24 ++ u32 (length rules)
    ++ u32 (24 + 12 * length rules) ++ u32 (length nodes)
    ++ u32 (24 + 12 * length rules + 24 * length nodes) ++ u32 (length text)
    ++ joined rules ++ joined nodes ++ text

-- the text of every image below: "r", "WHITESPACE", " ", "a", "b", "POP_ALL", "PEEK_ALL", whose first three bytes are no POP
abbrev pub text : List ℕ
text =
    114
    ∷ 87 ∷ 72 ∷ 73 ∷ 84 ∷ 69 ∷ 83 ∷ 80 ∷ 65 ∷ 67 ∷ 69
    ∷ 32 ∷ 97 ∷ 98
    ∷ 80 ∷ 79 ∷ 80 ∷ 95 ∷ 65 ∷ 76 ∷ 76
    ∷ 80 ∷ 69 ∷ 69 ∷ 75 ∷ 95 ∷ 65 ∷ 76 ∷ 76
    ∷ []

-- rules and nodes over that text
abbrev pub r : ℕ → List ℕ
r root = rule 0 1 root

abbrev pub whitespace : ℕ → List ℕ
whitespace root = rule 1 10 root

abbrev pub a : ℕ → List ℕ
a root = rule 12 1 root

abbrev pub b : ℕ → List ℕ
b root = rule 13 1 root

abbrev pub Str-empty : List ℕ
Str-empty = node 1 0 0 0

abbrev pub Str-space : List ℕ
Str-space = node 1 11 1 0

abbrev pub Str-a : List ℕ
Str-a = node 1 12 1 0

abbrev pub Ident-b : List ℕ
Ident-b = node 4 13 1 0

abbrev pub POP : List ℕ
POP = node 4 14 3 0

abbrev pub POP-ALL : List ℕ
POP-ALL = node 4 14 7 0

abbrev pub PEEK-ALL : List ℕ
PEEK-ALL = node 4 21 8 0

abbrev pub PosPred : ℕ → List ℕ
PosPred part = node 6 part 0 0

abbrev pub Seq : ℕ → ℕ → List ℕ
Seq left right = node 8 left right 0

abbrev pub Choice : ℕ → ℕ → List ℕ
Choice left right = node 9 left right 0

abbrev pub Rep : ℕ → List ℕ
Rep part = node 11 part 0 0

abbrev pub RepExact : ℕ → ℕ → List ℕ
RepExact part count = node 13 part count 0

abbrev pub RepMinMax : ℕ → ℕ → ℕ → List ℕ
RepMinMax part least most = node 16 part least most

abbrev pub Push : ℕ → List ℕ
Push part = node 17 part 0 0

abbrev pub PushLiteral-empty : List ℕ
PushLiteral-empty = node 18 0 0 0
