-- Questions that come to questions: the laws of runs and of questions asked in a row. Assumes nothing.
use mathlib.Core.Path.{◌≡◌, refl, ◌∙◌}
use mathlib.Core.List.{List}
use Prim.Native.Nat.{ℕ, ◌<◌}
use Rattle.asking.specs.World.{Setup, World, Answer, refused, given, and_then}
use Rattle.tables.proofs.Memo.{keeps_self, keeps-trans}
use Rattle.standing.specs.Stands.{Lent, Tables, Stands}
use Rattle.standing.specs.Answers.{setup_for, Standing, Answering, Along}
use Rattle.standing.proofs.Given.{then-refused, then-given, given-standing, given_is, given-since}

module _ {A : Type 0} {image : List ℕ} {T₀ : Tables} {count₀ : ℕ} {Q₀ : Setup → World → Answer A} where
  pub along-start : Along image T₀ count₀ Q₀ T₀ count₀ Q₀
  along-start = record { each = λ L W h. (W, h, keeps_self 4 8 T₀.memo, refl) }

  module _ {T : Tables} {count : ℕ} {Q : Setup → World → Answer A} (a : Along image T₀ count₀ Q₀ T count Q) where
    -- the tables stand for a world still
    pub along-standing : Standing T₀ count₀ → Standing T count
    along-standing h = let r = a.each h.lent h.world h.stands in record { lent = h.lent; world = r.0; stands = r.1 }

    pub along-on : {T' : Tables} {count' : ℕ} {Q' : Setup → World → Answer A} → Along image T count Q T' count' Q' → Along image T₀ count₀ Q₀ T' count' Q'
    along-on {T'} b =
        record {
          each = λ L W₀ h.
              let r = a.each L W₀ h in
              let q = b.each L r.0 r.1 in
              (q.0, q.1, keeps-trans 4 8 T₀.memo T.memo T'.memo r.2 q.2, r.3 ∙ q.3);
        }

    pub along-answer : {I : A → Type 0} {r count' : ℕ} {T' : Tables} → Answering image T count Q I r count' T' → Answering image T₀ count₀ Q₀ I r count' T'
    along-answer {I} {r} {count'} {T'} b =
        record {
          each = λ L W₀ h.
              let w = a.each L W₀ h in
              rw w.3 (given-since T₀ w.2 (b.each L w.0 w.1));
        }

module _ {A : Type 0} {image : List ℕ} {T₀ : Tables} {count₀ : ℕ} {Q₀ : Setup → World → Answer A} {I : A → Type 0} {r count : ℕ} {T : Tables}
    (a : Answering image T₀ count₀ Q₀ I r count T) where
  -- after an answer the tables stand for a world still
  pub answer-standing : Standing T₀ count₀ → r ≡ 0 → Standing T count
  answer-standing h z = given-standing (a.each h.lent h.world h.stands) z

  pub answer-is : Standing T₀ count₀ → r ≡ 0 → (x : A) × I x
  answer-is h z = given_is (a.each h.lent h.world h.stands) z

  -- a refused question refuses what was to follow
  pub refused-on : {B : Type 0} {J : B → Type 0} {count' : ℕ} {T' : Tables} (F : Setup → A → World → Answer B) → (r ≡ 0 → ⊥)
      → Answering image T₀ count₀ (λ S W. and_then (Q₀ S W) (F S)) J r count' T'
  refused-on F z = record { each = λ L W h. then-refused (F (setup_for image L)) (a.each L W h) z }

  -- an answered one goes on to what follows
  pub answered-on : {B : Type 0} {J : B → Type 0} {r' count' : ℕ} {T' : Tables} (F : Setup → A → World → Answer B) → r ≡ 0
      → ((x : A) → I x → Answering image T count (λ S W. F S x W) J r' count' T') → Answering image T₀ count₀ (λ S W. and_then (Q₀ S W) (F S)) J r' count' T'
  answered-on F z g =
      record { each = λ L W h. then-given (F (setup_for image L)) (a.each L W h) z (λ x W₁ i h₁ k. given-since T₀ k ((g x i).each L W₁ h₁)) }

  -- the same, where the definition puts the question otherwise
  pub answering_by : {Q : Setup → World → Answer A} → ((L : Lent) (W : World) → Stands L T₀ count₀ W → Q (setup_for image L) W ≡ Q₀ (setup_for image L) W)
      → Answering image T₀ count₀ Q I r count T
  answering_by e = record { each = λ L W h. rw (e L W h) (a.each L W h) }

-- an answer at once
pub answer-now : {A : Type 0} {image : List ℕ} {T : Tables} {count : ℕ} {I : A → Type 0} {x : A} → I x → Answering image T count (λ S W. given x W) I 0 count T
answer-now {A} {image} {T} {count} {I} {x} i = record { each = λ L W h. record { says = (refl, i, h, keeps_self 4 8 T.memo) } }

pub refuse-now : {A : Type 0} {image : List ℕ} {T₀ T : Tables} {count₀ count : ℕ} {I : A → Type 0} (k : ℕ) → 0 < k → Answering image T₀ count₀ (λ S W. refused k) I k count T
refuse-now k l = record { each = λ L W h. record { says = (refl, l) } }
