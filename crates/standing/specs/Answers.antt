-- What the members of the cycle ask of their arguments, and what their answers say: the definition's answer, for every world that
-- the tables stand for. Assumes nothing.
use Rattle.std.specs.Prelude.{◌≡◌, List, ℕ, ◌-◌, ◌/◌, ◌<◌, length}
use Rattle.image.specs.Grammar.{grammar}
use Rattle.asking.specs.World.{Setup, World, Answer, refused, given}
use Rattle.asking.specs.StackPass.{setup_of}
use Rattle.tables.specs.Map.{Keeps}
use Rattle.standing.specs.Stands.{Lent, Tables, Stands}

-- what a run over an image is given, by the tables that are lent
abbrev pub setup_for : List ℕ → Lent → Setup
setup_for image L = setup_of (grammar image) (L.memo / 8) (L.walked / 4) (L.reports / 8 - length L.before)

-- the tables stand for some world
pub record Standing (T : Tables) (count : ℕ) : Type 0 where
  pub lent : Lent
  pub world : World
  pub stands : Stands lent T count world

abbrev pub GivenIf : {A : Type 0} → Lent → Tables → (A → Type 0) → ℕ → ℕ → Tables → Answer A → Type 0
GivenIf L T₀ I refusal count T (refused k) = (refusal ≡ k) × (0 < k)
GivenIf L T₀ I refusal count T (given a W) = (refusal ≡ 0) × I a × Stands L T count W × Keeps 4 8 T₀.memo T.memo

-- a refusal is the definition's; an answer is what I says of the definition's, the tables stand for the definition's world, and every
-- key keeps its place in the outcome table
pub record Given {A : Type 0} (L : Lent) (T₀ : Tables) (I : A → Type 0) (refusal count : ℕ) (T : Tables) (d : Answer A) : Type 0 where
  pub says : GivenIf L T₀ I refusal count T d

-- the bytes of the lent tables and the marks, as one
abbrev pub tables : List ℕ → List ℕ → List ℕ → List ℕ → Tables
tables memo walked reports marks = record { memo = memo; walked = walked; reports = reports; marks = marks }

-- a question put to the definition, over the setup and the world it is asked in
abbrev pub Question : Type 0 → Type 0
Question A = Setup → World → Answer A

-- an answer is the definition's, whatever world the tables stood for
pub record Answering {A : Type 0} (image : List ℕ) (T₀ : Tables) (count₀ : ℕ) (Q : Setup → World → Answer A) (I : A → Type 0) (refusal count : ℕ) (T : Tables) : Type 0 where
  pub each : (L : Lent) (W : World) → Stands L T₀ count₀ W → Given L T₀ I refusal count T (Q (setup_for image L) W)

-- one question has come to another: the definition answers both alike, in the worlds that the tables stand for
pub record Along {A : Type 0} (image : List ℕ) (T₀ : Tables) (count₀ : ℕ) (Q₀ : Setup → World → Answer A) (T : Tables) (count : ℕ) (Q : Setup → World → Answer A) : Type 0 where
  pub each : (L : Lent) (W₀ : World) → Stands L T₀ count₀ W₀
      → (W : World) × Stands L T count W × Keeps 4 8 T₀.memo T.memo × (Q₀ (setup_for image L) W₀ ≡ Q (setup_for image L) W)
