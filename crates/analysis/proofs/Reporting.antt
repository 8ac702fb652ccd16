-- What a search for a loop makes of a repetition: nothing, or a report. Assumes nothing.
use Rattle.std.specs.Prelude.{Result, Ok, Err}
use mathlib.Core.Path.{◌≡◌, sym, ◌∙◌}
use mathlib.Core.Bool.{Bool, true, false}
use mathlib.Core.List.{List, []}
use Prim.Native.Nat.{ℕ, ◌<◌}
use native.Mathlib.Omega.{arith}
use Rattle.stack.specs.declared.AbsStack.{AbsStack}
use Rattle.stack.specs.State.{max_len}
use Rattle.stack.specs.Promise.{state_of, WellFormed}
use Rattle.image.specs.declared.refusal.Refusal.{Refusal}
use Rattle.image.specs.RefusalNumber.{number_of}
use Rattle.image.proofs.RefusalLaws.{refusal_number-positive}
use Rattle.asking.specs.World.{Setup, World, Answer, refused, given}
use Rattle.asking.specs.Runs.{Search, loops, breaks, spent, loops_forever}
use Rattle.asking.specs.Ask.{visit, report, searched, search_steps}
use Rattle.standing.specs.Stands.{Lent, Tables}
use Rattle.standing.specs.Answers.{setup_for, tables, GivenIf, Answering}
use Rattle.turns.specs.Promise.{Reported}
use Rattle.turns.proofs.Reports.{count-after, report-answers}
use Rattle.analysis.specs.declared.Pass.{Pass}
use Rattle.analysis.specs.declared.Down.{Down}
use Rattle.analysis.specs.Methods.{tables_of, SamePass, Answers, IsLoop, Done}
use Rattle.analysis.proofs.On.{on_err, on_ok, answers-now}

-- nothing is said of an answer
abbrev Anything : Unit {0} → Type 0
Anything u = Unit {0}

-- a refusal is one whatever an answer would say
refused-any : {A : Type 0} {image : List ℕ} {T₀ T : Tables} {count₀ k count : ℕ} {Q : Setup → World → Answer A} {I J : A → Type 0} → Answering image T₀ count₀ Q I k count T → (k ≡ 0 → ⊥)
    → Answering image T₀ count₀ Q J k count T
refused-any {A} {image} {T₀} {T} {count₀} {k} {count} {Q} {I} {J} a z = record { each = λ L W h. record { says = go L (Q (setup_for image L) W) (a.each L W h).says } }
  where
    go : (L : Lent) (d : Answer A) → GivenIf L T₀ I k count T d → GivenIf L T₀ J k count T d
    go L (refused n) g = g
    go L (given x W) g = absurd (z g.0)

module _ (d : Down) (n part : ℕ) (s : AbsStack) where
  abbrev pub seeking : Setup → World → Answer (Unit {0})
  seeking S W = searched S (visit S d.left) d.walking n part (state_of s) W

  abbrev pub reporting : Setup → Search → World → Answer (Unit {0})
  reporting S x W = report S n part (state_of s) W x

  -- walking is off
  pub seek-off : {p : Pass} → d.walking ≡ false → Answers p seeking Done (Ok tt) p
  seek-off w = rw w (answers-now {I = Done} {x = tt} tt)

  module _ {p p₁ : Pass} (w : d.walking ≡ true) {a : Result Bool Refusal}
      (found : Answers p (λ S W. loops_forever (visit S d.left) part search_steps (state_of s) [] W) IsLoop a p₁) where
    pub seek-refuses : {k : Refusal} → a ≡ Err k → Answers p seeking Done (Err k) p₁
    seek-refuses e = rw w (on_err found e reporting)

    module _ {b : Bool} (e : a ≡ Ok b) (same : SamePass p p₁) where
      -- no loop was found
      pub seek-clear : b ≡ false → Answers p seeking Done (Ok tt) p₁
      seek-clear f = rw w (on_ok found e same reporting go)
        where
          go : (x : Search) → IsLoop x b → Answers p₁ (λ S W. reporting S x W) Done (Ok tt) p₁
          go loops j = absurd (let y : false ≡ true = sym f ∙ j in let k : ◌≡◌ {A = ℕ} 0 1 = cc in omega arith)
          go breaks j = answers-now {I = Done} {x = tt} tt
          go spent j = answers-now {I = Done} {x = tt} tt

      -- a loop was found
      seek-by : b ≡ true → {y : Result (Unit {0}) Refusal} {q : Pass} → Answers p₁ (λ S W. report S n part (state_of s) W loops) Done y q → Answers p seeking Done y q
      seek-by f {y} {q} g = rw w (on_ok found e same reporting go)
        where
          go : (x : Search) → IsLoop x b → Answers p₁ (λ S W. reporting S x W) Done y q
          go loops j = g
          go breaks j = absurd (let y : true ≡ false = sym f ∙ j in let k : ◌≡◌ {A = ℕ} 0 1 = cc in omega arith)
          go spent j = absurd (let y : true ≡ false = sym f ∙ j in let k : ◌≡◌ {A = ℕ} 0 1 = cc in omega arith)

      -- its report is held back, made, or refused
      module _ (f : b ≡ true) (small : n < 2048) (formed : WellFormed max_len s) {r : Result ℕ Refusal} {table marks : List ℕ}
          (reported : Reported p₁.names.image.bytes.now p₁.table.now p₁.marks.now p₁.count n part s r table marks) where
        the-report : {x : Result ℕ Refusal} → r ≡ x
            → Answering p₁.names.image.bytes.now (tables_of p₁) p₁.count (λ S W. report S n part (state_of s) W loops) Anything (number_of x) (count-after x p₁.count)
            (tables p₁.memo.now p₁.walked.now table marks)
        the-report e = rw (← e) (report-answers reported small formed p₁.memo.now p₁.walked.now)

        pub seek-reports : {q : Pass} → tables_of q ≡ tables p₁.memo.now p₁.walked.now table marks → {count : ℕ} → r ≡ Ok count → q.count ≡ count → Answers p seeking Done (Ok tt) q
        seek-reports bytes y c = seek-by f (record { so = rw (bytes, c) (the-report y) })

        pub seek-full : {q : Pass} → tables_of q ≡ tables p₁.memo.now p₁.walked.now table marks → {k : Refusal} → r ≡ Err k → q.count ≡ p₁.count → Answers p seeking Done (Err k) q
        seek-full bytes {k} y c =
            seek-by f (record { so = rw (bytes, c) (refused-any (the-report y) (λ z. let l = refusal_number-positive k in omega (arith, z))) })
