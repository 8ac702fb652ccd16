-- What an answer says to the method that asked: how it goes on, and from what. Assumes nothing.
use Rattle.std.specs.Prelude.{Option, Some, Result, Ok, Err}
use Rattle.std.specs.Result.{IsErr, IsErrAnd}
use Rattle.std.proofs.lemmas.Result.{err_from_is_err_and}
use mathlib.Core.Path.{◌≡◌, refl, sym, ap, subst, ◌∙◌}
use mathlib.Core.List.{List}
use Prim.Native.Nat.{ℕ, ◌<◌}
use native.Mathlib.Omega.{arith}
use lib.ListN.{length}
use Rattle.stack.specs.declared.AbsStack.{AbsStack}
use Rattle.stack.specs.State.{max_len}
use Rattle.stack.specs.Promise.{WellFormed}
use Rattle.image.specs.Grammar.{grammar}
use Rattle.image.specs.declared.refusal.Refusal.{Refusal}
use Rattle.image.specs.RefusalNumber.{refusal_number, number_of}
use Rattle.image.proofs.RefusalLaws.{refusal_number-positive}
use Rattle.machine.specs.Outcome.{Outcome}
use Rattle.asking.specs.World.{Setup, World, Answer, refused, given, and_then}
use Rattle.asking.specs.Reading.{nodes_of, skips_of}
use Rattle.asking.specs.StackPass.{setup_of}
use Rattle.asking.specs.Runs as R
use Rattle.outcomes.specs.declared.Outcome as Code
use Rattle.outcomes.specs.Promise.{maybe_of, outcome_of, FormedMaybe, Formed, IsOutcome}
use Rattle.tables.specs.Map.{Keeps}
use Rattle.standing.specs.Stands.{Lent, Stands}
use Rattle.standing.specs.Answers.{setup_for, Standing, GivenIf, Answering, Along}
use Rattle.standing.proofs.Along.{along-start, along-on, along-answer, answer-standing, answer-is, refused-on, answered-on, answering_by, answer-now, refuse-now}
use Rattle.turns.specs.declared.Ran.{Ran}
use Rattle.turns.specs.Promise.{IsRan}
use Rattle.analysis.specs.declared.Pass.{Pass}
use Rattle.analysis.specs.Methods.{tables_of, SamePass, Ready, Node, Says, Answers}

-- the skips of a run over an image
pub setup-skips : (image : List ℕ) (L : Lent) → (setup_for image L).nodes.skips ≡ skips_of (grammar image)
unfolding setup_of nodes_of
setup-skips image L = refl

-- the run that the code's stands for
abbrev pub ran_of : Ran → R.Ran
ran_of r = record { end = maybe_of r.end; empty = r.empty; fails = r.fails }

pub ran-is : {a : R.Ran} {r : Ran} → IsRan a r → ran_of r ≡ a
ran-is h = λ i. record { end = h.end.maybe i; empty = h.empty i; fails = h.fails i }

-- the state in a well-formed option
pub state-formed : {m : Option AbsStack} {s : AbsStack} → m ≡ Some s → FormedMaybe m → WellFormed max_len s
state-formed e h = subst FormedMaybe e h

-- a pass is the same as itself, and as what the same pass becomes
pub same_self : (p : Pass) → SamePass p p
same_self p =
    record { image = refl; names = refl; skips = refl; memo = refl; walked = refl; table = refl; marks = refl; memo-long = refl; walked-long = refl; table-long = refl; marks-long = refl }

pub same-trans : {p q t : Pass} → SamePass p q → SamePass q t → SamePass p t
same-trans a b =
    record {
      image = b.image ∙ a.image;
      names = b.names ∙ a.names;
      skips = b.skips ∙ a.skips;
      memo = b.memo ∙ a.memo;
      walked = b.walked ∙ a.walked;
      table = b.table ∙ a.table;
      marks = b.marks ∙ a.marks;
      memo-long = b.memo-long ∙ a.memo-long;
      walked-long = b.walked-long ∙ a.walked-long;
      table-long = b.table-long ∙ a.table-long;
      marks-long = b.marks-long ∙ a.marks-long;
    }

pub ready-by : {p q : Pass} → Ready p → q.names.image.bytes.now ≡ p.names.image.bytes.now → q.skips ≡ p.skips → Standing (tables_of q) q.count → Ready q
ready-by h im sk st = record { skips = sk ∙ h.skips ∙ ap (λ (x : List ℕ). skips_of (grammar x)) (sym im); standing = st }

-- a node is one still
pub node-on : {p q : Pass} {n : ℕ} → SamePass p q → Node p n → Node q n
node-on {p} {q} {n} s h = subst (λ (x : List ℕ). n < length (grammar x).nodes) (sym s.image) h

-- an answer, over an image that is the pass's
pub over : {A B : Type 0} {p q : Pass} {Q : Setup → World → Answer A} {I : A → B → Type 0} {r : Result B Refusal} → Answers p Q I r q → {image : List ℕ} → p.names.image.bytes.now ≡ image
    → Answering image (tables_of p) p.count Q (Says I r) (number_of r) q.count (tables_of q)
over {A} {B} {p} {q} {Q} {I} {r} a e = subst (λ (x : List ℕ). Answering x (tables_of p) p.count Q (Says I r) (number_of r) q.count (tables_of q)) e a.so

-- a question put to a pass has come to another, put to it later
pub record Comes {A : Type 0} (p : Pass) (Q₀ : Setup → World → Answer A) (q : Pass) (Q : Setup → World → Answer A) : Type 0 where
  pub so : Along p.names.image.bytes.now (tables_of p) p.count Q₀ (tables_of q) q.count Q

pub comes-start : {A : Type 0} {p : Pass} {Q : Setup → World → Answer A} → Comes p Q p Q
comes-start = record { so = along-start }

module _ {A : Type 0} {p q : Pass} {Q₀ Q : Setup → World → Answer A} (c : Comes p Q₀ q Q) where
  pub comes-answers : SamePass p q → {B : Type 0} {I : A → B → Type 0} {r : Result B Refusal} {t : Pass} → Answers q Q I r t → Answers p Q₀ I r t
  comes-answers s {B} {I} {r} {t} a =
      record { so = along-answer c.so (over a s.image) }

  pub comes-on : SamePass p q → {Q' : Setup → World → Answer A} {t : Pass} → Comes q Q t Q' → Comes p Q₀ t Q'
  comes-on s {Q'} {t} d = record { so = along-on c.so (subst (λ (x : List ℕ). Along x (tables_of q) q.count Q (tables_of t) t.count Q') s.image d.so) }

  -- the same, where the definition puts the last or the first question otherwise
  pub comes-to : {Q' : Setup → World → Answer A} → ((L : Lent) (W : World) → Q (setup_for p.names.image.bytes.now L) W ≡ Q' (setup_for p.names.image.bytes.now L) W) → Comes p Q₀ q Q'
  comes-to e = record { so = record { each = λ L W h. let w = c.so.each L W h in (w.0, w.1, w.2, w.3 ∙ e L w.0) } }

  pub comes-from : {Q₀' : Setup → World → Answer A} → ((L : Lent) (W : World) → Q₀' (setup_for p.names.image.bytes.now L) W ≡ Q₀ (setup_for p.names.image.bytes.now L) W) → Comes p Q₀' q Q
  comes-from e = record { so = record { each = λ L W h. let w = c.so.each L W h in (w.0, w.1, w.2, e L W ∙ w.3) } }

module _ {A B : Type 0} {p q : Pass} {Q : Setup → World → Answer A} {I : A → B → Type 0} {r : Result B Refusal} (a : Answers p Q I r q) where
  -- the same, where the definition puts the question otherwise
  pub answers-by : {Q' : Setup → World → Answer A} → ((L : Lent) (W : World) → Q' (setup_for p.names.image.bytes.now L) W ≡ Q (setup_for p.names.image.bytes.now L) W) → Answers p Q' I r q
  answers-by e = record { so = answering_by a.so (λ L W h. e L W) }

  -- a refusal refuses what was to follow
  pub on_err : {k : Refusal} → r ≡ Err k → {C D : Type 0} {J : C → D → Type 0} (F : Setup → A → World → Answer C) → Answers p (λ S W. and_then (Q S W) (F S)) J (Err k) q
  on_err {k} e {C} {D} {J} F =
      let s = subst (λ (x : Result B Refusal). Answers p Q I x q) e a in
      record { so = refused-on s.so F (λ z. let l = refusal_number-positive k in omega (arith, z)) }

  -- and an answer goes on to it
  module _ {b : B} (e : r ≡ Ok b) where
    pub said : Answers p Q I (Ok b) q
    said = subst (λ (x : Result B Refusal). Answers p Q I x q) e a

    pub ok-is : Ready p → (x : A) × I x b
    ok-is h = answer-is said.so h.standing refl

    module _ (s : SamePass p q) where
      pub ready-on : Ready p → Ready q
      ready-on h = ready-by h s.image s.skips (answer-standing said.so h.standing refl)

      pub on_ok : {C D : Type 0} {J : C → D → Type 0} {r' : Result D Refusal} {t : Pass} (F : Setup → A → World → Answer C)
          → ((x : A) → I x b → Answers q (λ S W. F S x W) J r' t) → Answers p (λ S W. and_then (Q S W) (F S)) J r' t
      on_ok {C} {D} {J} {r'} {t} F g =
          record {
            so = answered-on said.so F refl
                (λ x i. over (g x i) s.image);
          }

    -- an answered question comes to what follows, at the answer
    pub ok-comes : {C : Type 0} (F : Setup → A → World → Answer C) (x : A) → ((y : A) → I y b → y ≡ x)
        → Comes p (λ S W. and_then (Q S W) (F S)) q (λ S W. F S x W)
    ok-comes {C} F x one = record { so = record { each = λ L W h. go L (Q (setup_for p.names.image.bytes.now L) W) (said.so.each L W h).says } }
      where
        go : (L : Lent) (d : Answer A) → GivenIf L (tables_of p) (Says I (Ok b)) 0 q.count (tables_of q) d
            → (W : World) × Stands L (tables_of q) q.count W × Keeps 4 8 p.memo.now q.memo.now × (and_then d (F (setup_for p.names.image.bytes.now L)) ≡ F (setup_for p.names.image.bytes.now L) x W)
        go L (refused k) g = absurd (let e = g.0 in let l = g.1 in omega arith)
        go L (given y W) g = (W, g.2, g.3, ap (λ (v : A). F (setup_for p.names.image.bytes.now L) v W) (one y g.1))

module _ {p q : Pass} {Q : Setup → World → Answer Outcome} {r : Result Code.Outcome Refusal} (a : Answers p Q IsOutcome r q) {o : Code.Outcome} (e : r ≡ Ok o) where
  -- the outcome that was answered is well formed
  pub outcome-formed : Ready p → Formed o
  outcome-formed h = (ok-is a e h).1.formed

  -- an outcome was asked for: what follows goes on from it
  pub outcome_on : {C D : Type 0} {J : C → D → Type 0} {r' : Result D Refusal} {t : Pass} → SamePass p q → (F : Setup → Outcome → World → Answer C)
      → Answers q (λ S W. F S (outcome_of o) W) J r' t → Answers p (λ S W. and_then (Q S W) (F S)) J r' t
  outcome_on {C} {D} {J} {r'} {t} s F g = on_ok a e s F (λ x i. subst (λ (y : Outcome). Answers q (λ S W. F S y W) J r' t) i.outcome g)

  pub outcome-comes : {C : Type 0} (F : Setup → Outcome → World → Answer C) → Comes p (λ S W. and_then (Q S W) (F S)) q (λ S W. F S (outcome_of o) W)
  outcome-comes F = ok-comes a e F (outcome_of o) (λ y i. sym i.outcome)

module _ {p q : Pass} {Q : Setup → World → Answer R.Ran} {r : Result Ran Refusal} (a : Answers p Q IsRan r q) {x : Ran} (e : r ≡ Ok x) where
  pub ran-formed : Ready p → FormedMaybe x.end
  ran-formed h = (ok-is a e h).1.end.formed

  -- a run was asked for
  pub ran_on : {C D : Type 0} {J : C → D → Type 0} {r' : Result D Refusal} {t : Pass} → SamePass p q → (F : Setup → R.Ran → World → Answer C)
      → Answers q (λ S W. F S (ran_of x) W) J r' t → Answers p (λ S W. and_then (Q S W) (F S)) J r' t
  ran_on {C} {D} {J} {r'} {t} s F g = on_ok a e s F (λ y i. subst (λ (z : R.Ran). Answers q (λ S W. F S z W) J r' t) (ran-is i) g)

-- a refusal that `?` hands on
pub handed-on : {A B : Type 0} {p q : Pass} {Q : Setup → World → Answer A} {I : A → B → Type 0} {r : Result B Refusal} {k : Refusal} → IsErr r × IsErrAnd r (λ x. x ≡ k)
    → Answers p Q I (Err k) q → Answers p Q I r q
handed-on {A} {B} {p} {q} {Q} {I} {r} {k} h a =
    let w = err_from_is_err_and r h.1 in subst (λ (x : Result B Refusal). Answers p Q I x q) (ap Err (sym w.2) ∙ sym w.1) a

-- an answer at once, a refusal at once
pub answers-now : {A B : Type 0} {p : Pass} {I : A → B → Type 0} {x : A} {b : B} → I x b → Answers p (λ S W. given x W) I (Ok b) p
answers-now i = record { so = answer-now i }

pub refuses-now : {A B : Type 0} {p : Pass} {I : A → B → Type 0} (k : Refusal) → Answers p (λ S W. refused (refusal_number k)) I (Err k) p
refuses-now k = record { so = refuse-now (refusal_number k) (refusal_number-positive k) }
