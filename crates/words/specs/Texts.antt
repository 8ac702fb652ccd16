-- The texts by number. The lists begin at number 0; a number that is in none has the last text. Assumes nothing.
use Rattle.std.specs.Prelude.{ℕ, ◌≡◌, List, [], ◌∷◌, get_or}
use Prim.Native.String.{String}
use Rattle.words.specs.Line.{bytes, pad_to}

-- the text of a number, as it is said
abbrev pub said_at : List String → String → ℕ → List ℕ
said_at texts other k = bytes (get_or texts k other)

-- r is the text, and with spaces behind it the line
pub record Text (text line r : List ℕ) : Type 0 where
  pub is : r ≡ text
  pub padded : pad_to 64 r ≡ line

-- what a refusal means
abbrev pub refusals : List String
refusals =
    "done"
    ∷ "the image is under 24 bytes: no room for a table of contents"
    ∷ "over a limit: 256 rules, 2048 nodes or 8192 bytes of text"
    ∷ "a position or the total length is not as the layout asks"
    ∷ "a node's kind, bits, fields, text or span is not allowed"
    ∷ "a rule has no name inside the text, or its root is no node"
    ∷ "two rules share a name"
    ∷ "the nodes are no trees: not each is once a part or a root"
    ∷ "the outcome table has no free place left"
    ∷ "the walked table has no free place left"
    ∷ "the report table has no free place left"
    ∷ "one run of a repetition has a 65th distinct start"
    ∷ "the rules nest too deep: a 257th node would be open at once"
    ∷ "left recursion: a search from one rule entered 65537 nodes"
    ∷ []

abbrev pub refusal_text : ℕ → List ℕ
refusal_text k = said_at refusals "no refusal has this number" k

abbrev pub refusal : ℕ → List ℕ
refusal k = pad_to 64 (refusal_text k)

-- the name of a reason
abbrev pub reasons : List String
reasons =
    "no reason has this number"
    ∷ "repetition cannot fail"
    ∷ "repetition does not progress"
    ∷ "stack loop"
    ∷ "choice cannot be reached"
    ∷ "left recursion"
    ∷ []

abbrev pub reason_text : ℕ → List ℕ
reason_text k = said_at reasons "no reason has this number" k

abbrev pub reason : ℕ → List ℕ
reason k = pad_to 64 (reason_text k)

-- a reason in a sentence
abbrev pub whys : List String
whys =
    "Nothing is known of it."
    ∷ "What is repeated cannot fail, so the turns never end."
    ∷ "What is repeated need not move on, so the turns may never end."
    ∷ "Begun on such a stack it never ends: each turn matches in place."
    ∷ "This side cannot fail, so what comes after it is never tried."
    ∷ "This name leads back to its rule before the input has moved."
    ∷ []

abbrev pub why_text : ℕ → List ℕ
why_text k = said_at whys "Nothing is known of it." k

abbrev pub why : ℕ → List ℕ
why k = pad_to 64 (why_text k)

-- the name of a kind
abbrev pub kinds : List String
kinds =
    "no kind"
    ∷ "Str"
    ∷ "Insens"
    ∷ "Range"
    ∷ "Ident"
    ∷ "PeekSlice"
    ∷ "PosPred"
    ∷ "NegPred"
    ∷ "Seq"
    ∷ "Choice"
    ∷ "Opt"
    ∷ "Rep"
    ∷ "RepOnce"
    ∷ "RepExact"
    ∷ "RepMin"
    ∷ "RepMax"
    ∷ "RepMinMax"
    ∷ "Push"
    ∷ "PushLiteral"
    ∷ "NodeTag"
    ∷ []

abbrev pub kind_text : ℕ → List ℕ
kind_text k = said_at kinds "no kind" k

abbrev pub kind : ℕ → List ℕ
kind k = pad_to 64 (kind_text k)

-- what lies below the tracked entries, by base + 4 × intact
abbrev pub belows : List String
belows =
    "nothing"
    ∷ "blank entries only, any number of them or none"
    ∷ "any entries, or none"
    ∷ "no base has this number"
    ∷ "nothing, as when the rule began"
    ∷ "the entries with which the rule began, all of them blank"
    ∷ "the entries with which the rule began"
    ∷ []

abbrev pub below_text : ℕ → List ℕ
below_text k = said_at belows "no base has this number" k

abbrev pub below : ℕ → List ℕ
below k = pad_to 64 (below_text k)
