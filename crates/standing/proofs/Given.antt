-- Answers in a row: what a refusal and an answer of the first question make of the whole. Assumes nothing.
use mathlib.Core.Path.{◌≡◌, refl}
use Prim.Native.Nat.{ℕ, ◌<◌}
use native.Mathlib.Omega.{arith}
use Rattle.asking.specs.World.{World, Answer, refused, given, and_then}
use Rattle.tables.specs.Map.{Keeps}
use Rattle.tables.proofs.Memo.{keeps-trans}
use Rattle.standing.specs.Stands.{Lent, Tables, Stands}
use Rattle.standing.specs.Answers.{Standing, GivenIf, Given}

module _ {A : Type 0} {L : Lent} {T₀ T : Tables} {I : A → Type 0} {r count : ℕ} where
  -- a refused question refuses the whole
  pub then-refused : {B : Type 0} {J : B → Type 0} {count' : ℕ} {T' : Tables} {d : Answer A} (f : A → World → Answer B) → Given L T₀ I r count T d → (r ≡ 0 → ⊥)
      → Given L T₀ J r count' T' (and_then d f)
  then-refused {B} {J} {count'} {T'} {d} f h z = record { says = go d h.says }
    where
      go : (d : Answer A) → GivenIf L T₀ I r count T d → GivenIf L T₀ J r count' T' (and_then d f)
      go (refused k) h = h
      go (given a W) h = absurd (z h.0)

  -- an answered one goes on
  pub then-given : {B : Type 0} {J : B → Type 0} {r' count' : ℕ} {T' : Tables} {d : Answer A} (f : A → World → Answer B) → Given L T₀ I r count T d → r ≡ 0
      → ((a : A) (W : World) → I a → Stands L T count W → Keeps 4 8 T₀.memo T.memo → Given L T₀ J r' count' T' (f a W)) → Given L T₀ J r' count' T' (and_then d f)
  then-given {B} {J} {r'} {count'} {T'} {d} f h z g = record { says = go d h.says }
    where
      go : (d : Answer A) → GivenIf L T₀ I r count T d → GivenIf L T₀ J r' count' T' (and_then d f)
      go (refused k) h = absurd (let e = h.0 in let l = h.1 in omega arith)
      go (given a W) h = (g a W h.1 h.2 h.3).says

  -- the world after an answer, and the answer
  pub given-standing : {d : Answer A} → Given L T₀ I r count T d → r ≡ 0 → Standing T count
  given-standing {d} h z = go d h.says
    where
      go : (d : Answer A) → GivenIf L T₀ I r count T d → Standing T count
      go (refused k) h = absurd (let e = h.0 in let l = h.1 in omega arith)
      go (given a W) h = record { lent = L; world = W; stands = h.2 }

  pub given_is : {d : Answer A} → Given L T₀ I r count T d → r ≡ 0 → (a : A) × I a
  given_is {d} h z = go d h.says
    where
      go : (d : Answer A) → GivenIf L T₀ I r count T d → (a : A) × I a
      go (refused k) h = absurd (let e = h.0 in let l = h.1 in omega arith)
      go (given a W) h = (a, h.1)

  -- from an earlier outcome table
  pub given-since : (T₁ : Tables) {d : Answer A} → Keeps 4 8 T₁.memo T₀.memo → Given L T₀ I r count T d → Given L T₁ I r count T d
  given-since T₁ {d} k₀ h = record { says = go d h.says }
    where
      go : (d : Answer A) → GivenIf L T₀ I r count T d → GivenIf L T₁ I r count T d
      go (refused k) h = h
      go (given a W) h = (h.0, h.1, h.2, keeps-trans 4 8 T₁.memo T₀.memo T.memo k₀ h.3)

  -- an answer that is read on
  pub given-as : {B : Type 0} {J : B → Type 0} {d : Answer A} (f : A → B) → ((a : A) → I a → J (f a)) → Given L T₀ I r count T d → Given L T₀ J r count T (and_then d (λ a W. given (f a) W))
  given-as {B} {J} {d} f g h = record { says = go d h.says }
    where
      go : (d : Answer A) → GivenIf L T₀ I r count T d → GivenIf L T₀ J r count T (and_then d (λ a W. given (f a) W))
      go (refused k) h = h
      go (given a W) h = (h.0, g a h.1, h.2, h.3)

-- a refusal, an answer
pub refuses : {A : Type 0} {L : Lent} {T₀ T : Tables} {I : A → Type 0} {count : ℕ} (k : ℕ) → 0 < k → Given L T₀ I k count T (refused k)
refuses k l = record { says = (refl, l) }

pub gives : {A : Type 0} {L : Lent} {T₀ T : Tables} {I : A → Type 0} {r count : ℕ} {a : A} {W : World} → r ≡ 0 → I a → Stands L T count W → Keeps 4 8 T₀.memo T.memo
    → Given L T₀ I r count T (given a W)
gives z i s k = record { says = (z, i, s, k) }
