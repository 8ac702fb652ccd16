-- What the methods of `Pass` ask of the tables that it holds, and what their answers say of the definition's. Assumes nothing.
use Rattle.std.specs.Prelude.{◌≡◌, Bool, true, false, ℕ, length, Result, Ok, Err}
use Rattle.image.specs.Grammar.{grammar}
use Rattle.image.specs.Promise.{IsNode}
use Rattle.image.specs.declared.refusal.Refusal.{Refusal}
use Rattle.image.specs.RefusalNumber.{number_of}
use Rattle.asking.specs.Reading.{skips_of}
use Rattle.asking.specs.World.{Setup, World, Answer}
use Rattle.asking.specs.Runs.{Search, loops, breaks, spent}
use Rattle.standing.specs.Stands.{Tables}
use Rattle.standing.specs.Answers.{Standing, Answering, tables}
use Rattle.analysis.specs.declared.Pass.{Pass}

-- the bytes that the pass holds
abbrev pub tables_of : Pass → Tables
tables_of p = tables p.memo.now p.walked.now p.table.now p.marks.now

-- the image, its names and the tables are the same ones still, as long as they were
pub record SamePass (p q : Pass) : Type 0 where
  pub image : q.names.image.bytes.now ≡ p.names.image.bytes.now
  pub names : q.names.words.now ≡ p.names.words.now
  pub skips : q.skips ≡ p.skips
  pub memo : q.memo.ghost_name ≡ p.memo.ghost_name
  pub walked : q.walked.ghost_name ≡ p.walked.ghost_name
  pub table : q.table.ghost_name ≡ p.table.ghost_name
  pub marks : q.marks.ghost_name ≡ p.marks.ghost_name
  pub memo-long : length q.memo.now ≡ length p.memo.now
  pub walked-long : length q.walked.now ≡ length p.walked.now
  pub table-long : length q.table.now ≡ length p.table.now
  pub marks-long : length q.marks.now ≡ length p.marks.now

-- skips that are the image's, and tables that stand for a world
pub record Ready (p : Pass) : Type 0 where
  pub skips : p.skips ≡ skips_of (grammar p.names.image.bytes.now)
  pub standing : Standing (tables_of p) p.count

-- a node of the image
abbrev pub Node : Pass → ℕ → Type 0
Node p n = IsNode p.names.image.bytes.now n

-- the search found a loop
abbrev pub is_loop : Search → Bool
is_loop loops = true
is_loop breaks = false
is_loop spent = false

abbrev pub IsLoop : Search → Bool → Type 0
IsLoop x b = b ≡ is_loop x

-- nothing to say
abbrev pub Done : Unit {0} → Unit {0} → Type 0
Done a b = Unit {0}

-- what is answered is what I says of the definition's
abbrev pub Says : {A B : Type 0} → (A → B → Type 0) → Result B Refusal → A → Type 0
Says I (Ok b) a = I a b
Says I (Err k) a = ⊥

-- an answer, or a refusal, is the definition's to a question, in every world that the tables stood for
pub record Answers {A B : Type 0} (p : Pass) (Q : Setup → World → Answer A) (I : A → B → Type 0) (r : Result B Refusal) (q : Pass) : Type 0 where
  pub so : Answering p.names.image.bytes.now (tables_of p) p.count Q (Says I r) (number_of r) q.count (tables_of q)
