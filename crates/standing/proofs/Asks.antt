-- `visit` and `outcome` over the lent tables, return by return: which question each comes to. Assumes nothing.
use mathlib.Core.Path.{◌≡◌, refl, sym, ap, subst, ◌∙◌}
use mathlib.Core.Bool.{Bool, true, false}
use mathlib.Core.List.{List}
use Prim.Native.Nat.{ℕ, suc, ◌<◌}
use lib.Dec.{lit≤, lit<}
use Rattle.stack.specs.State.{State, Within, max_len}
use Rattle.machine.specs.Outcome.{Outcome, unknown}
use Rattle.asking.specs.World.{Setup, World, Answer, refused, given, and_then, look, opens, closes, walks}
use Rattle.asking.specs.Ask.{step, visit}
use Rattle.asking.specs.StackPass.{setup_of}
use Rattle.tables.specs.Places.{value_at, set_value, set_place}
use Rattle.tables.specs.Probing.{probe}
use Rattle.tables.specs.declared.Probe.TheVariants.{Found, Free, Full}
use Rattle.tables.proofs.Memo as Table
use Rattle.tables.proofs.Memo.{memo-keeps, keeps-value, keeps_self, keeps-trans}
use Rattle.outcomes.specs.Word.{outcome_number, outcome_at, WithinOutcome, NumberOfOutcome}
use Rattle.outcomes.proofs.Words.{outcome_at-outcome_number, outcome_number-lt}
use Rattle.standing.specs.Stands.{key_of, Lent, Tables, Stands}
use Rattle.standing.specs.Answers.{setup_for, Standing, GivenIf, Answering, Along}
use Rattle.standing.proofs.Maps.{look-open, look_known, known-formed}
use Rattle.standing.proofs.Moves.{with_memo, with_walked, key-nz, key-lt, opens-stands, closes-stands, walks-stands}
use Rattle.standing.proofs.Looks.{walked-found, walked-free, walked-full, memo-found, memo-free, memo-full}
use Rattle.standing.proofs.Visits.{visit-none, visit-walked, visit-new, visit-full, outcome-known, outcome-open, outcome-new, outcome-full}

-- no node may open any more: 12
pub visit-refuses : {image : List ℕ} {T₀ T : Tables} {count₀ count : ℕ} {I : Outcome → Type 0} (left : ℕ) (walking : Bool) (n : ℕ) (s : State) → left ≡ 0
    → Answering image T₀ count₀ (λ S W. visit S left walking n s W) I 12 count T
visit-refuses {image} left walking n s z =
    record { each = λ L W h. rw (z, visit-none (setup_for image L) 0 n s W walking) (record { says = (refl, lit< tt) }) }

module _ {image : List ℕ} {T : Tables} {count : ℕ} (left n : ℕ) (s : State) (w : Within max_len s) where
  -- a pair that was walked is asked for its outcome
  pub visit-comes-to-outcome : (i : ℕ) → Found i ≡ probe 4 4 T.walked (key_of n s)
      → Along image T count (λ S W. visit S (suc left) true n s W) T count (λ S W. visit S (suc left) false n s W)
  visit-comes-to-outcome i e =
      record { each = λ L W h. (W, h, keeps_self 4 8 T.memo, visit-walked (setup_for image L) left n s W (walked-found h n s w i e)) }

  -- one that was not takes a place and is stepped afresh
  pub visit-comes-to-step : n < 2048 → (i : ℕ) → Free i ≡ probe 4 4 T.walked (key_of n s)
      → Along image T count (λ S W. visit S (suc left) true n s W) (with_walked (set_place 4 4 T.walked i (key_of n s) 0) T) count
      (λ S W. step S (visit S left) true n s W)
  unfolding setup_of
  visit-comes-to-step small i e =
      record {
        each = λ L W h.
            let f = walked-free h n s w i e in
            (walks n s W, walks-stands h n s small w i e, keeps_self 4 8 T.memo, visit-new (setup_for image L) left n s W f.0 f.1);
      }

  -- none is free: 9
  pub visit-refuses-9 : {I : Outcome → Type 0} {count' : ℕ} {T' : Tables} → Full ≡ probe 4 4 T.walked (key_of n s)
      → Answering image T count (λ S W. visit S (suc left) true n s W) I 9 count' T'
  unfolding setup_of
  visit-refuses-9 e =
      record {
        each = λ L W h.
            let f = walked-full h n s w e in
            rw (visit-full (setup_for image L) left n s W f.0 f.1) (record { says = (refl, lit< tt) });
      }

  -- an open pair answers UNKNOWN
  pub outcome-is-open : {I : Outcome → Type 0} (i : ℕ) → Found i ≡ probe 4 8 T.memo (key_of n s) → value_at 4 8 T.memo i ≡ 0 → I unknown
      → Answering image T count (λ S W. visit S (suc left) false n s W) I 0 count T
  outcome-is-open i e z u =
      record {
        each = λ L W h.
            rw (outcome-open (setup_for image L) left n s W (look-open (look n s W.memo) (value_at 4 8 T.memo i) (memo-found h n s w i e) z))
            (record { says = (refl, u, h, keeps_self 4 8 T.memo) });
      }

  -- a remembered pair answers what it remembers
  pub outcome-is-remembered : {I : Outcome → Type 0} (i : ℕ) → Found i ≡ probe 4 8 T.memo (key_of n s) → (value_at 4 8 T.memo i ≡ 0 → ⊥)
      → I (outcome_at (value_at 4 8 T.memo i)) → Answering image T count (λ S W. visit S (suc left) false n s W) I 0 count T
  outcome-is-remembered {I} i e z u =
      record {
        each = λ L W h.
            let k = look_known (look n s W.memo) (value_at 4 8 T.memo i) (memo-found h n s w i e) z in
            let f = known-formed n s W.memo k.0 h.entries k.1 in
            let q : outcome_at (value_at 4 8 T.memo i) ≡ k.0 = ap outcome_at (sym k.2) ∙ outcome_at-outcome_number k.0 f in
            rw (outcome-known (setup_for image L) left n s W k.0 k.1) (record { says = (refl, subst I q u, h, keeps_self 4 8 T.memo) });
      }

  -- none is free: 8
  pub outcome-refuses-8 : {I : Outcome → Type 0} {count' : ℕ} {T' : Tables} → Full ≡ probe 4 8 T.memo (key_of n s)
      → Answering image T count (λ S W. visit S (suc left) false n s W) I 8 count' T'
  unfolding setup_of
  outcome-refuses-8 e =
      record {
        each = λ L W h.
            let f = memo-full h n s w e in
            rw (outcome-full (setup_for image L) left n s W f.0 f.1) (record { says = (refl, lit< tt) });
      }

  -- a new pair takes a place and opens; what is left is to step it and to store its answer
  pub outcome-opens : n < 2048 → (i : ℕ) → Free i ≡ probe 4 8 T.memo (key_of n s)
      → Along image T count (λ S W. visit S (suc left) false n s W) (with_memo (set_place 4 8 T.memo i (key_of n s) 0) T) count
      (λ S W. and_then (step S (visit S left) false n s W) (λ o W₁. given o (closes n s o W₁)))
  unfolding setup_of
  outcome-opens small i e =
      record {
        each = λ L W h.
            let f = memo-free h n s w i e in (
              opens n s W,
              opens-stands h n s small w i e,
              memo-keeps 4 8 (lit≤ tt) L.memo h.remembered (key_of n s) (key-nz n s) i 0 e,
              outcome-new (setup_for image L) left n s W f.0 f.1,
            );
      }

module _ {T : Tables} {count : ℕ} (n : ℕ) (s : State) (w : Within max_len s) (st : Standing T count) where
  -- what a remembered pair's value is
  pub remembered-number : (i : ℕ) → Found i ≡ probe 4 8 T.memo (key_of n s) → (value_at 4 8 T.memo i ≡ 0 → ⊥)
      → NumberOfOutcome max_len (value_at 4 8 T.memo i)
  remembered-number i e z =
      let h = st.stands in
      let W = st.world in
      let k = look_known (look n s W.memo) (value_at 4 8 T.memo i) (memo-found h n s w i e) z in
      record { outcome = k.0; within = known-formed n s W.memo k.0 h.entries k.1; number = k.2 }

  -- the place that the pair opened in is still its own
  pub opened-place : n < 2048 → (i : ℕ) → Free i ≡ probe 4 8 T.memo (key_of n s)
      → Found i ≡ probe 4 8 (set_place 4 8 T.memo i (key_of n s) 0) (key_of n s)
  opened-place small i e =
      memo-found' st.lent st.stands
    where
      memo-found' : (L : Lent) {W : World} → Stands L T count W → Found i ≡ probe 4 8 (set_place 4 8 T.memo i (key_of n s) 0) (key_of n s)
      memo-found' L h = Table.memo-found 4 8 (lit≤ tt) L.memo h.remembered (key_of n s) (key-nz n s) i 0 e (key-lt n s small w) (lit< tt)

-- a step that has answered, and its answer stored at the pair's place
pub closing : {image : List ℕ} {T₀ T : Tables} {count₀ count : ℕ} {I : Outcome → Type 0} {Q : Setup → World → Answer Outcome} (n : ℕ) (s : State) → n < 2048 → Within max_len s
    → (i : ℕ) (o : Outcome) → ((x : Outcome) → I x → x ≡ o) → WithinOutcome max_len o → Found i ≡ probe 4 8 T₀.memo (key_of n s)
    → Answering image T₀ count₀ Q I 0 count T
    → Answering image T₀ count₀ (λ S W. and_then (Q S W) (λ x W₁. given x (closes n s x W₁))) I 0 count (with_memo (set_value 4 8 T.memo i (outcome_number o)) T)
closing {image} {T₀} {T} {count₀} {count} {I} {Q} n s small w i o one wo e a =
    record { each = λ L W h. record { says = go L (Q (setup_for image L) W) (a.each L W h).says } }
  where
    go : (L : Lent) (d : Answer Outcome) → GivenIf L T₀ I 0 count T d
        → GivenIf L T₀ I 0 count (with_memo (set_value 4 8 T.memo i (outcome_number o)) T) (and_then d (λ x W₁. given x (closes n s x W₁)))
    go L (refused k) g = g
    go L (given x W₁) g =
        let q : x ≡ o = one x g.1 in (
          g.0,
          g.1,
          rw q (closes-stands g.2 n s small w o i wo (outcome_number-lt o wo) (g.3 (key_of n s) i (key-nz n s) e)),
          keeps-trans 4 8 T₀.memo T.memo (set_value 4 8 T.memo i (outcome_number o)) g.3 (keeps-value 4 8 (lit≤ tt) T.memo i (outcome_number o)),
        )
