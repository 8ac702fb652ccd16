-- The starred cases of document 01 ("Sides of each limit") as one table: an image, and what the check gives. Assumes nothing.
use Rattle.std.specs.Prelude.{true, List, [], ◌∷◌, ℕ, zero, suc, take, replicate}
use Rattle.stack.specs.declared.Base.TheVariants.{Empty}
use Rattle.stack.specs.State.{State, entry}
use Rattle.image.specs.Grammar.{Grammar, grammar}
use Rattle.machine.specs.Kind.{Kind}
use Rattle.asking.specs.Reading.{nodes_of}
use Rattle.asking.specs.World.{nothing_yet, Answer, given, refused}
use Rattle.asking.specs.Runs.{Search, breaks, loops_forever}
use Rattle.asking.specs.Ask.{visit, search_steps}
use Rattle.asking.specs.StackPass.{setup_of, open_nodes}
use Rattle.passes.specs.Report.{Result, done}
use Rattle.passes.specs.Report as Report
use Rattle.thatchnip.specs.Check.{check}
use Rattle.cases.specs.Images.{image_of, text, r, whitespace, a, b, Str-empty, Str-space, Str-a, Ident-b, POP, POP-ALL, PEEK-ALL, PosPred, Seq, Choice, Rep, RepExact, RepMinMax, Push, PushLiteral-empty}

pub record Case : Type 0 where
  pub image : List ℕ
  pub gives : Result

abbrev pub case : List ℕ → Result → Case
case image gives = record { image = image; gives = gives }

-- "Image of 24 bytes, positions 24, counts 0"
abbrev pub nothing : List ℕ
nothing = image_of [] [] []

-- "PUSH_LITERAL("")*, bits clear"
abbrev pub pushing : List ℕ
pushing = image_of (r 1 ∷ []) (PushLiteral-empty ∷ Rep 0 ∷ []) text

-- ""a"*, bits clear": 0 Str, 1 Rep
abbrev pub a_star : List ℕ
a_star = image_of (r 1 ∷ []) (Str-a ∷ Rep 0 ∷ []) text

-- "POP_ALL ~ (&"a" | POP)*, bits clear": 0 Ident, 1 Str, 2 PosPred, 3 Ident, 4 Choice, 5 Rep, 6 Seq
abbrev pub popping : List ℕ
popping = image_of (r 6 ∷ []) (POP-ALL ∷ Str-a ∷ PosPred 1 ∷ POP ∷ Choice 2 3 ∷ Rep 4 ∷ Seq 0 5 ∷ []) text

-- POP_ALL ~ PUSH_LITERAL("") repeated ~ PEEK_ALL*
abbrev pub repeated : List ℕ → List ℕ
repeated repetition =
    image_of (r 6 ∷ []) (POP-ALL ∷ PushLiteral-empty ∷ repetition ∷ Seq 0 2 ∷ PEEK-ALL ∷ Rep 4 ∷ Seq 3 5 ∷ []) text

abbrev pub starred : List Case
starred =
    -- "Image of 24 bytes, positions 24, counts 0: done, no report. 23 bytes: 1."
    case nothing (done [])
    ∷ case (take 23 nothing) (Report.refused 1)
    -- "(PUSH("") ~ POP)* as nodes 0 Str, 1 Push, 2 Ident, 3 Seq, 4 Rep, bits clear: whole report list is 14,495,514,628"
    ∷ case (image_of (r 4 ∷ []) (Str-empty ∷ Push 0 ∷ POP ∷ Seq 1 2 ∷ Rep 3 ∷ []) text) (done (14495514628 ∷ []))
    -- "With WHITESPACE = " " as a second rule: nothing."
    ∷ case (image_of (r 4 ∷ whitespace 5 ∷ []) (Str-empty ∷ Push 0 ∷ POP ∷ Seq 1 2 ∷ Rep 3 ∷ Str-space ∷ []) text) (done [])
    -- "POP_ALL ~ PEEK_ALL*, Rep is node 2: 12,884,901,890, under skips too."
    ∷ case (image_of (r 3 ∷ []) (POP-ALL ∷ PEEK-ALL ∷ Rep 1 ∷ Seq 0 2 ∷ []) text) (done (12884901890 ∷ []))
    ∷ case (image_of (r 3 ∷ whitespace 4 ∷ []) (POP-ALL ∷ PEEK-ALL ∷ Rep 1 ∷ Seq 0 2 ∷ Str-space ∷ []) text) (done (12884901890 ∷ []))
    -- "Bare PEEK_ALL*: nothing."
    ∷ case (image_of (r 1 ∷ []) (PEEK-ALL ∷ Rep 0 ∷ []) text) (done [])
    -- "POP_ALL ~ (&"a" | POP)*, bits clear: reported"
    ∷ case popping (done (12884901893 ∷ []))
    -- "PUSH_LITERAL("")*, bits clear: nothing"
    ∷ case pushing (done [])
    -- ""a"*, bits clear: nothing"
    ∷ case a_star (done [])
    -- "RepMinMax 5, 2: as RepExact 2."
    ∷ case (repeated (RepExact 1 2)) (done (12918652933 ∷ []))
    ∷ case (repeated (RepMinMax 1 5 2)) (done (12918652933 ∷ []))
    -- "a = {b}, b = {b}: one report, in b."
    ∷ case (image_of (a 0 ∷ b 1 ∷ []) (Ident-b ∷ Ident-b ∷ []) text) (done (21474836481 ∷ []))
    -- "POP_ALL ~ PEEK_ALL*, set as second rule" (the check that walks only the first rule)
    ∷ case (image_of (a 0 ∷ r 4 ∷ []) (Str-a ∷ POP-ALL ∷ PEEK-ALL ∷ Rep 2 ∷ Seq 1 3 ∷ []) text) (done (12884901891 ∷ []))
    ∷ []

-- what the check gives, with places enough, and what it should
abbrev pub runs : List Case → List Result
runs [] = []
runs (c ∷ cs) = check c.image 100 100 10 ∷ runs cs

abbrev pub expected : List Case → List Result
expected [] = []
expected (c ∷ cs) = c.gives ∷ expected cs

-- what the search for a loop comes to at a part, from the entry state
abbrev pub searched_as : Answer Search → Search
searched_as (refused k) = breaks
searched_as (given found W) = found

abbrev pub search : List ℕ → ℕ → Search
search image part =
    searched_as (loops_forever (visit (setup_of (grammar image) 100 100 10) open_nodes) part search_steps entry [] nothing_yet)

-- what the first nodes of an image are to the check and to the machine
abbrev pub kinds_from : Grammar → ℕ → ℕ → List Kind
kinds_from g i zero = []
kinds_from g i (suc count) = (nodes_of g).at i ∷ kinds_from g (suc i) count

abbrev pub kinds : List ℕ → ℕ → List Kind
kinds image count = kinds_from (grammar image) 0 count

-- so many blank entries on an empty base
abbrev pub holding : ℕ → State
holding n = record { base = Empty; tops = replicate n true; intact = true }
