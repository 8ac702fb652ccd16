-- Nodes with parts: one part, a sequence and a choice, from the outcomes of their parts. Assumes nothing.
use Rattle.std.specs.Prelude.{Some, None, Option, Result, Ok, Err}
use mathlib.Core.Path.{◌≡◌, sym, ap, ◌∙◌}
use Prim.Native.Nat.{ℕ}
use Rattle.stack.specs.declared.AbsStack.{AbsStack}
use Rattle.stack.specs.Promise.{state_of}
use Rattle.image.specs.declared.refusal.Refusal.{Refusal}
use Rattle.machine.specs.Outcome.{Maybe, Outcome, never, failed, of_seq, of_choice}
use Rattle.asking.specs.World.{Setup, World, Answer, given, and_then}
use Rattle.asking.specs.Ask.{visit, seq_rest, choice_rest}
use Rattle.outcomes.specs.declared.Outcome as Code
use Rattle.outcomes.specs.Promise.{maybe_of, outcome_of, IsMaybe, IsOutcome}
use Rattle.standing.specs.Answers.{setup_for}
use Rattle.analysis.specs.declared.Pass.{Pass}
use Rattle.analysis.specs.declared.Down.{Down}
use Rattle.analysis.specs.Methods.{SamePass, Ready, Answers}
use Rattle.analysis.proofs.On.{setup-skips, answers-by, on_err, outcome_on, answers-now}

-- what a node with one part makes of its part's outcome
pub part-answers : {p p₁ : Pass} {Q : Setup → World → Answer Outcome} {a : Result Code.Outcome Refusal} {o : Code.Outcome} (make : Outcome → Outcome) {r : Code.Outcome}
    → Answers p Q IsOutcome a p₁ → a ≡ Ok o → SamePass p p₁ → IsOutcome (make (outcome_of o)) r
    → Answers p (λ S W. and_then (Q S W) (λ x W₁. given (make x) W₁)) IsOutcome (Ok r) p₁
part-answers make asked e same i = outcome_on asked e same (λ S x W₁. given (make x) W₁) (answers-now i)

-- a sequence and a choice, as the definition asks
module _ (d : Down) (s : AbsStack) (left right : ℕ) where
  abbrev pub seq_on : Setup → Outcome → World → Answer Outcome
  seq_on S l W = seq_rest S (visit S d.left) d.walking right (state_of s) l W l.ok

  abbrev pub the-seq : Setup → World → Answer Outcome
  the-seq S W = and_then (visit S d.left d.walking left (state_of s) W) (seq_on S)

  abbrev pub choice_on : Setup → Outcome → World → Answer Outcome
  choice_on S l W = choice_rest S (visit S d.left) d.walking right (state_of s) l W (failed l.err (state_of s))

  abbrev pub the-choice : Setup → World → Answer Outcome
  the-choice S W = and_then (visit S d.left d.walking left (state_of s) W) (choice_on S)

  module _ {p p₁ : Pass} {a : Result Code.Outcome Refusal} (h : Ready p) (asked : Answers p (λ S W. visit S d.left d.walking left (state_of s) W) IsOutcome a p₁) where
    pub seq-refuses : {k : Refusal} → a ≡ Err k → Answers p the-seq IsOutcome (Err k) p₁
    seq-refuses e = on_err asked e seq_on

    module _ {l : Code.Outcome} (e : a ≡ Ok l) (same : SamePass p p₁) where
      -- the left side cannot succeed
      pub seq-ends : l.ok ≡ None → {n o : Code.Outcome} → IsOutcome never n → IsOutcome (of_seq p₁.skips (state_of s) (outcome_of l) (outcome_of n)) o
          → Answers p the-seq IsOutcome (Ok o) p₁
      seq-ends q n i =
          outcome_on asked e same seq_on
          (answers-by (answers-now i)
          (λ L W.
          rw (q, setup-skips p₁.names.image.bytes.now L, same.image, ← h.skips, same.skips)
          (ap (λ (x : Outcome). given (of_seq p.skips (state_of s) (outcome_of l) x) W) (sym n.outcome))))

      module _ {mid : AbsStack} (q : l.ok ≡ Some mid) {b : Result Code.Outcome Refusal} {p₂ : Pass}
          (then : Answers p₁ (λ S W. visit S d.left d.walking right (state_of mid) W) IsOutcome b p₂) where
        abbrev both : Setup → Outcome → World → Answer Outcome
        both S x W = given (of_seq S.nodes.skips (state_of s) (outcome_of l) x) W

        pub seq-refuses-right : {k : Refusal} → b ≡ Err k → Answers p the-seq IsOutcome (Err k) p₂
        seq-refuses-right y = outcome_on asked e same seq_on (answers-by (on_err then y both) (λ L W. rw q))

        pub seq-answers : {r o : Code.Outcome} → b ≡ Ok r → SamePass p₁ p₂ → IsOutcome (of_seq p₂.skips (state_of s) (outcome_of l) (outcome_of r)) o
            → Answers p the-seq IsOutcome (Ok o) p₂
        seq-answers y same₂ i =
            outcome_on asked e same seq_on
            (answers-by
            (outcome_on then y same₂ both (answers-by (answers-now i) (λ L W. rw (setup-skips p₂.names.image.bytes.now L, same₂.image, same.image, ← h.skips, same₂.skips, same.skips))))
            (λ L W. rw q))

    pub choice-refuses : {k : Refusal} → a ≡ Err k → Answers p the-choice IsOutcome (Err k) p₁
    choice-refuses e = on_err asked e choice_on

    module _ {l : Code.Outcome} (e : a ≡ Ok l) (same : SamePass p p₁) {f : Option AbsStack} (fails : IsMaybe (failed (maybe_of l.err) (state_of s)) f) where
      choice-by : {m : Maybe} {r : Result Code.Outcome Refusal} {p₂ : Pass} → maybe_of f ≡ m
          → Answers p₁ (λ S W. choice_rest S (visit S d.left) d.walking right (state_of s) (outcome_of l) W m) IsOutcome r p₂ → Answers p the-choice IsOutcome r p₂
      choice-by m g =
          outcome_on asked e same choice_on
          (answers-by g
          (λ L W.
          ap (λ (x : Maybe). choice_rest (setup_for p₁.names.image.bytes.now L) (visit (setup_for p₁.names.image.bytes.now L) d.left) d.walking right (state_of s) (outcome_of l) W x)
          (sym fails.maybe ∙ m)))

      -- the left side cannot fail
      pub choice-ends : f ≡ None → {n o : Code.Outcome} → IsOutcome never n → IsOutcome (of_choice (state_of s) (outcome_of l) (outcome_of n)) o
          → Answers p the-choice IsOutcome (Ok o) p₁
      choice-ends q n i =
          choice-by (ap maybe_of q)
          (answers-by (answers-now i) (λ L W. ap (λ (x : Outcome). given (of_choice (state_of s) (outcome_of l) x) W) (sym n.outcome)))

      module _ {from : AbsStack} (q : f ≡ Some from) {b : Result Code.Outcome Refusal} {p₂ : Pass}
          (then : Answers p₁ (λ S W. visit S d.left d.walking right (state_of from) W) IsOutcome b p₂) where
        pub choice-refuses-right : {k : Refusal} → b ≡ Err k → Answers p the-choice IsOutcome (Err k) p₂
        choice-refuses-right y = choice-by (ap maybe_of q) (on_err then y (λ S x W₁. given (of_choice (state_of s) (outcome_of l) x) W₁))

        pub choice-answers : {r o : Code.Outcome} → b ≡ Ok r → SamePass p₁ p₂ → IsOutcome (of_choice (state_of s) (outcome_of l) (outcome_of r)) o
            → Answers p the-choice IsOutcome (Ok o) p₂
        choice-answers y same₂ i = choice-by (ap maybe_of q) (outcome_on then y same₂ (λ S x W₁. given (of_choice (state_of s) (outcome_of l) x) W₁) (answers-now i))
