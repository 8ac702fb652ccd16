-- `visit` and `outcome`, return by return, from what the code has in hand. Assumes nothing.
use Rattle.std.specs.Prelude.{Result, Ok, Err}
use mathlib.Core.Path.{◌≡◌, refl, sym, ap, subst, ◌∙◌}
use mathlib.Core.Bool.{Bool, true, false, not}
use mathlib.Core.List.{List}
use Prim.Native.Nat.{ℕ, suc, ◌-◌, ◌<◌}
use native.Mathlib.Omega.{arith}
use lib.Dec.{lit≤}
use lib.ListN.{length}
use Rattle.stack.specs.declared.AbsStack.{AbsStack}
use Rattle.stack.specs.State.{Within, max_len}
use Rattle.stack.specs.Promise.{state_of, WellFormed}
use Rattle.image.specs.declared.refusal.Refusal.{Refusal}
use Rattle.image.specs.declared.refusal.Refusal.TheVariants.{OutcomesFull, WalkedFull, TooDeep}
use Rattle.image.specs.RefusalNumber.{number_of}
use Rattle.image.proofs.GrammarLaws.{accepted}
use Rattle.machine.specs.Outcome.{unknown}
use Rattle.asking.specs.World.{given, and_then, closes}
use Rattle.asking.specs.Ask.{step, visit}
use Rattle.tables.specs.declared.Probe.{Probe}
use Rattle.tables.specs.declared.Probe.TheVariants.{Found, Free, Full}
use Rattle.tables.specs.Places.{key_at, places, value_at, set_value, set_place}
use Rattle.tables.proofs.Places.{length-place}
use Rattle.tables.specs.Probing.{probe, Tells, Probed}
use Rattle.outcomes.specs.declared.Outcome as Code
use Rattle.outcomes.specs.Promise.{outcome_of, IsOutcome}
use Rattle.outcomes.specs.Word.{outcome_number, outcome_at, NumberOfOutcome}
use Rattle.outcomes.proofs.Within.{state-within, outcome-within}
use Rattle.standing.specs.Stands.{key_of, Tables}
use Rattle.standing.specs.Answers.{tables, Answering, Along}
use Rattle.standing.proofs.Along.{along-standing, along-answer}
use Rattle.standing.proofs.Asks.{visit-refuses, visit-comes-to-outcome, visit-comes-to-step, visit-refuses-9, outcome-is-open, outcome-is-remembered, outcome-refuses-8, outcome-opens, remembered-number, opened-place, closing}
use Rattle.analysis.specs.declared.Pass.{Pass}
use Rattle.analysis.specs.declared.Down.{Down}
use Rattle.analysis.specs.Methods.{tables_of, Says, Ready, Node, Answers}
use Rattle.analysis.proofs.On.{over, ready-by, on_err, said, outcome-formed}

-- the place that a search answers with
pub free-place : {j size : ℕ} {t : List ℕ} {k : ℕ} {p : Probe} {i : ℕ} → Probed j size t k p → p ≡ Free i → i < places size t
free-place {j} {size} {t} {k} h e = (subst (Tells (key_at j size t) (places size t) k) e h.tells).0

pub found-place : {j size : ℕ} {t : List ℕ} {k : ℕ} {p : Probe} {i : ℕ} → Probed j size t k p → p ≡ Found i → i < places size t
found-place {j} {size} {t} {k} h e = (subst (Tells (key_at j size t) (places size t) k) e h.tells).0

-- the same pass with other bytes in its tables
pub record With (p : Pass) (T : Tables) (q : Pass) : Type 0 where
  pub image : q.names.image.bytes.now ≡ p.names.image.bytes.now
  pub skips : q.skips ≡ p.skips
  pub count : q.count ≡ p.count
  pub bytes : tables_of q ≡ T

module _ {p : Pass} {s : AbsStack} (h : Ready p) (formed : WellFormed max_len s) (n : ℕ) (node : Node p n) where
  few : n < 2048
  few = omega (arith, (accepted _ p.names.image.accepted).formed.few-nodes, node)

  within : Within max_len (state_of s)
  within = state-within s formed

  -- a node and a state have a key
  pub keyed : (n < 2048) × WellFormed max_len s
  keyed = (few, formed)

  -- no node may open any more
  pub none_left : (left : ℕ) (walking : Bool) → left ≡ 0 → Answers p (λ S W. visit S left walking n (state_of s) W) IsOutcome (Err TooDeep) p
  none_left left walking z = record { so = visit-refuses left walking n (state_of s) z }

  module _ (left : ℕ) (z : left ≡ 0 → ⊥) where
    some_left : left ≡ suc (left - 1)
    some_left = omega (arith, z)

    -- the walked table
    module _ {k : ℕ} (key : k ≡ key_of n (state_of s)) {found : Probe} (probed : Probed 4 4 p.walked.now k found) {walking : Bool} (on : walking ≡ true) where
      walked_at : {x : Probe} → found ≡ x → x ≡ probe 4 4 p.walked.now (key_of n (state_of s))
      walked_at e = sym e ∙ probed.answer ∙ ap (probe 4 4 p.walked.now) key

      pub visit-known : {i : ℕ} → found ≡ Found i → {r : Result Code.Outcome Refusal} {q : Pass}
          → Answers p (λ S W. visit S left false n (state_of s) W) IsOutcome r q → Answers p (λ S W. visit S left walking n (state_of s) W) IsOutcome r q
      visit-known {i} e {r} {q} a =
          rw (on, some_left)
          (record {
            so = along-answer (visit-comes-to-outcome (left - 1) n (state_of s) within i (walked_at e))
                (subst (λ (x : ℕ). Answering p.names.image.bytes.now (tables_of p) p.count (λ S W. visit S x false n (state_of s) W) (Says IsOutcome r) (number_of r) q.count (tables_of q)) some_left a.so);
          })

      pub visit-nine : found ≡ Full → Answers p (λ S W. visit S left walking n (state_of s) W) IsOutcome (Err WalkedFull) p
      visit-nine e = rw (on, some_left) (record { so = visit-refuses-9 (left - 1) n (state_of s) within (walked_at e) })

      -- a place is taken
      module _ {i : ℕ} (e : found ≡ Free i) {walked : List ℕ} (entered : walked ≡ set_place 4 4 p.walked.now i k 0) {q : Pass}
          (w : With p (tables p.memo.now walked p.table.now p.marks.now) q) where
        stepped : Along p.names.image.bytes.now (tables_of p) p.count (λ S W. visit S (suc (left - 1)) true n (state_of s) W)
            (tables_of q) q.count (λ S W. step S (visit S (left - 1)) true n (state_of s) W)
        stepped =
            rw (w.bytes, w.count, entered, key)
            (visit-comes-to-step (left - 1) n (state_of s) within few i (walked_at e))

        pub visit-ready : Ready q
        visit-ready = ready-by h w.image w.skips (along-standing stepped h.standing)

        pub visit-new : {r : Result Code.Outcome Refusal} {q₁ : Pass}
            → Answers q (λ S W. step S (visit S (left - 1)) true n (state_of s) W) IsOutcome r q₁ → Answers p (λ S W. visit S left walking n (state_of s) W) IsOutcome r q₁
        visit-new {r} {q₁} a =
            rw (on, some_left)
            (record {
              so = along-answer stepped (over a w.image);
            })

    -- the outcome table
    module _ {k : ℕ} (key : k ≡ key_of n (state_of s)) {found : Probe} (probed : Probed 4 8 p.memo.now k found) where
      memo-at : {x : Probe} → found ≡ x → x ≡ probe 4 8 p.memo.now (key_of n (state_of s))
      memo-at e = sym e ∙ probed.answer ∙ ap (probe 4 8 p.memo.now) key

      pub outcome-eight : found ≡ Full → Answers p (λ S W. visit S left false n (state_of s) W) IsOutcome (Err OutcomesFull) p
      outcome-eight e = rw some_left (record { so = outcome-refuses-8 (left - 1) n (state_of s) within (memo-at e) })

      module _ {i v : ℕ} (e : found ≡ Found i) (is : v ≡ value_at 4 8 p.memo.now i) where
        pub outcome-opened : v ≡ 0 → {o : Code.Outcome} → IsOutcome unknown o → Answers p (λ S W. visit S left false n (state_of s) W) IsOutcome (Ok o) p
        outcome-opened y u = rw some_left (record { so = outcome-is-open (left - 1) n (state_of s) within i (memo-at e) (sym is ∙ y) u })

        module _ (y : v ≡ 0 → ⊥) where
          pub outcome-number : NumberOfOutcome max_len v
          outcome-number = rw is (remembered-number n (state_of s) within h.standing i (memo-at e) (λ x. y (is ∙ x)))

          pub outcome-remembered : {o : Code.Outcome} → IsOutcome (outcome_at v) o → Answers p (λ S W. visit S left false n (state_of s) W) IsOutcome (Ok o) p
          outcome-remembered {o} u =
              rw some_left
              (record { so = outcome-is-remembered (left - 1) n (state_of s) within i (memo-at e) (λ x. y (is ∙ x)) (subst (λ (x : ℕ). IsOutcome (outcome_at x) o) is u) })

      -- a new pair opens, is stepped, and its answer is stored
      module _ {i : ℕ} (e : found ≡ Free i) {memo : List ℕ} (entered : memo ≡ set_place 4 8 p.memo.now i k 0) {q : Pass}
          (w : With p (tables memo p.walked.now p.table.now p.marks.now) q) where
        placed : memo ≡ set_place 4 8 p.memo.now i (key_of n (state_of s)) 0
        placed = entered ∙ ap (λ (x : ℕ). set_place 4 8 p.memo.now i x 0) key

        opened : Along p.names.image.bytes.now (tables_of p) p.count (λ S W. visit S (suc (left - 1)) false n (state_of s) W)
            (tables_of q) q.count (λ S W. and_then (step S (visit S (left - 1)) false n (state_of s) W) (λ o W₁. given o (closes n (state_of s) o W₁)))
        opened = rw (w.bytes, w.count, placed) (outcome-opens (left - 1) n (state_of s) within few i (memo-at e))

        pub outcome-ready : Ready q
        outcome-ready = ready-by h w.image w.skips (along-standing opened h.standing)

        module _ {a : Result Code.Outcome Refusal} {q₁ : Pass} (asked : Answers q (λ S W. step S (visit S (left - 1)) false n (state_of s) W) IsOutcome a q₁) where
          pub outcome-refused : {x : Refusal} → a ≡ Err x → Answers p (λ S W. visit S left false n (state_of s) W) IsOutcome (Err x) q₁
          outcome-refused {x} y =
              rw some_left
              (record {
                so = along-answer opened (over {I = IsOutcome} {r = Err x} (on_err asked y (λ S o W₁. given o (closes n (state_of s) o W₁))) w.image);
              })

          module _ {o : Code.Outcome} (y : a ≡ Ok o) {t : Pass} {v : ℕ} (ve : v ≡ outcome_number (outcome_of o)) (stored : tables_of t ≡ tables (set_value 4 8 q₁.memo.now i v) q₁.walked.now q₁.table.now q₁.marks.now) (same-count : t.count ≡ q₁.count) where
            pub outcome-stored : Answers p (λ S W. visit S left false n (state_of s) W) IsOutcome (Ok o) t
            outcome-stored =
                rw some_left
                (record {
                  so = rw (stored, same-count, ve)
                      (along-answer opened
                      (closing {Q = λ S W. step S (visit S (left - 1)) false n (state_of s) W} n (state_of s) few within i (outcome_of o) (λ x j. sym j.outcome) (outcome-within o (outcome-formed asked y outcome-ready))
                      (rw (ap (λ (T : Tables). T.memo) w.bytes, placed) (opened-place n (state_of s) within h.standing few i (memo-at e)))
                      (over (said asked y) w.image)));
                })

-- a test of walking
pub walking_on : (b : Bool) → not b ≡ false → b ≡ true
walking_on true e = refl
walking_on false e = absurd (let z : ◌≡◌ {A = ℕ} 0 1 = cc in omega arith)

pub walking-off : (b : Bool) → not b ≡ true → b ≡ false
walking-off true e = absurd (let z : ◌≡◌ {A = ℕ} 0 1 = cc in omega arith)
walking-off false e = refl

-- walking is off
pub not-walking : {p q : Pass} (d : Down) (n : ℕ) (s : AbsStack) {r : Result Code.Outcome Refusal} → d.walking ≡ false
    → Answers p (λ S W. visit S d.left false n (state_of s) W) IsOutcome r q → Answers p (λ S W. visit S d.left d.walking n (state_of s) W) IsOutcome r q
not-walking d n s e a = rw e a

-- the place is still there after the step
pub store-place : (memo : List ℕ) {memo' : List ℕ} (memo₂ : List ℕ) (k i : ℕ) → i < places 8 memo → memo' ≡ set_place 4 8 memo i k 0 → length memo₂ ≡ length memo' → i < places 8 memo₂
store-place memo {memo'} memo₂ k i l q e = rw (e, q, length-place 4 8 (lit≤ tt) memo i k 0) l
