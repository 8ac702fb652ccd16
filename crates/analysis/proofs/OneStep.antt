-- One step of a node, by the node's kind. Assumes nothing.
use Rattle.std.specs.Prelude.{Result, Ok}
use mathlib.Core.Path.{◌≡◌, refl, sym, ap, subst, ◌∙◌}
use Prim.Native.Nat.{ℕ, ◌<◌}
use mathlib.Core.Bool.{Bool, false}
use native.Mathlib.Omega.{arith}
use Rattle.stack.specs.declared.AbsStack.{AbsStack}
use Rattle.stack.specs.State.{State, max_len, popped_one}
use Rattle.stack.specs.Promise.{state_of}
use Rattle.image.specs.declared.refusal.Refusal.{Refusal}
use Rattle.machine.specs.Kind as K
use Rattle.machine.specs.Outcome.{succeeds, either, failed, of_push_literal, of_top, of_peek_all, of_pop_all, of_drop, of_pos_pred, of_neg_pred, of_opt, of_push}
use Rattle.asking.specs.World.{Setup, World, Ask, given, and_then}
use Rattle.asking.specs.Reading.{nodes_of}
use Rattle.asking.specs.StackPass.{setup_of}
use Rattle.asking.specs.Ask.{visit, step, step_kind, seq_rest, choice_rest, repeat_unbounded, repeat_bounded}
use Rattle.outcomes.specs.declared.Outcome as Code
use Rattle.outcomes.specs.Promise.{IsOutcome}
use Rattle.reading.specs.declared.names.Name.{Name}
use Rattle.reading.specs.declared.names.Name.TheVariants.{Stack, Rule, Unknown}
use Rattle.reading.specs.declared.names.StackName.TheVariants as B
use Rattle.reading.specs.declared.kinds.Kind.{Kind}
use Rattle.reading.specs.declared.kinds.Kind.TheVariants.{InPlace, Match, Ident, NodeTag, PosPred, NegPred, Opt, Push, PushLiteral, Seq, Choice, Unbounded, Bounded}
use Rattle.reading.specs.Names.{name_is}
use Rattle.reading.specs.Kinds.{kind_is, KindBelow, Reads}
use Rattle.reading.specs.Promise.{KindAt}
use Rattle.standing.specs.Answers.{setup_for}
use Rattle.analysis.specs.declared.Pass.{Pass}
use Rattle.analysis.specs.declared.Down.{Down}
use Rattle.analysis.specs.Methods.{Answers}
use Rattle.analysis.proofs.On.{answers-by, answers-now}

-- what a kind names is below its node
pub kind-below : {is : K.Kind} {name : Bool} {count n : ℕ} {k kind : Kind} → Reads is name count n k → k ≡ kind → KindBelow count n kind
kind-below {is} {name} {count} {n} h e = subst (KindBelow count n) e h.below

pub node-below : {part n count : ℕ} → part < n → n < count → part < count
node-below l h = omega (arith, l, h)

-- a name's step does not depend on the node it stands at
name-step : (S : Setup) (ask : Ask) (n : ℕ) (name : Name) (walking : Bool) (s : State) (W : World)
    → step_kind S ask walking n (name_is name) s W ≡ step_kind S ask walking 0 (name_is name) s W
unfolding step_kind
name-step S ask n (Stack B.Peek) walking s W = refl
name-step S ask n (Stack B.PeekAll) walking s W = refl
name-step S ask n (Stack B.Pop) walking s W = refl
name-step S ask n (Stack B.PopAll) walking s W = refl
name-step S ask n (Stack B.Drop) walking s W = refl
name-step S ask n (Rule root) walking s W = refl
name-step S ask n Unknown walking s W = refl

module _ {p q : Pass} (d : Down) (n : ℕ) (s : AbsStack) {k : Kind} {r : Result Code.Outcome Refusal} (read : KindAt p.names.image.bytes.now n k) where
  -- the step of the kind that was read
  step-as : (kind : Kind) → k ≡ kind → Answers p (λ S W. step_kind S (visit S d.left) d.walking n (kind_is kind) (state_of s) W) IsOutcome r q
      → Answers p (λ S W. step S (visit S d.left) d.walking n (state_of s) W) IsOutcome r q
  unfolding step setup_of nodes_of
  step-as kind e a =
      answers-by a
      (λ L W. ap (λ (x : K.Kind). step_kind (setup_for p.names.image.bytes.now L) (visit (setup_for p.names.image.bytes.now L) d.left) d.walking n x (state_of s) W) (sym read.is ∙ ap kind_is e))

  pub step-ident : {name : Name} → k ≡ Ident name → Answers p (λ S W. step_kind S (visit S d.left) d.walking 0 (name_is name) (state_of s) W) IsOutcome r q
      → Answers p (λ S W. step S (visit S d.left) d.walking n (state_of s) W) IsOutcome r q
  step-ident {name} e a =
      step-as (Ident name) e (answers-by a (λ L W. name-step (setup_for p.names.image.bytes.now L) (visit (setup_for p.names.image.bytes.now L) d.left) n name d.walking (state_of s) W))

  pub step-tag : {part : ℕ} → k ≡ NodeTag part → Answers p (λ S W. visit S d.left d.walking part (state_of s) W) IsOutcome r q
      → Answers p (λ S W. step S (visit S d.left) d.walking n (state_of s) W) IsOutcome r q
  unfolding step_kind
  step-tag {part} e a = step-as (NodeTag part) e a

  pub step-pos-pred : {part : ℕ} → k ≡ PosPred part
      → Answers p (λ S W. and_then (visit S d.left d.walking part (state_of s) W) (λ o W₁. given (of_pos_pred (state_of s) o) W₁)) IsOutcome r q
      → Answers p (λ S W. step S (visit S d.left) d.walking n (state_of s) W) IsOutcome r q
  unfolding step_kind
  step-pos-pred {part} e a = step-as (PosPred part) e a

  pub step-neg-pred : {part : ℕ} → k ≡ NegPred part
      → Answers p (λ S W. and_then (visit S d.left d.walking part (state_of s) W) (λ o W₁. given (of_neg_pred (state_of s) o) W₁)) IsOutcome r q
      → Answers p (λ S W. step S (visit S d.left) d.walking n (state_of s) W) IsOutcome r q
  unfolding step_kind
  step-neg-pred {part} e a = step-as (NegPred part) e a

  pub step-opt : {part : ℕ} → k ≡ Opt part
      → Answers p (λ S W. and_then (visit S d.left d.walking part (state_of s) W) (λ o W₁. given (of_opt (state_of s) o) W₁)) IsOutcome r q
      → Answers p (λ S W. step S (visit S d.left) d.walking n (state_of s) W) IsOutcome r q
  unfolding step_kind
  step-opt {part} e a = step-as (Opt part) e a

  pub step_push : {part : ℕ} → k ≡ Push part
      → Answers p (λ S W. and_then (visit S d.left d.walking part (state_of s) W) (λ o W₁. given (of_push max_len o) W₁)) IsOutcome r q
      → Answers p (λ S W. step S (visit S d.left) d.walking n (state_of s) W) IsOutcome r q
  unfolding step_kind setup_of
  step_push {part} e a = step-as (Push part) e (answers-by a (λ L W. refl))

  pub step-seq : {left right : ℕ} → k ≡ Seq left right
      → Answers p (λ S W. and_then (visit S d.left d.walking left (state_of s) W) (λ l W₁. seq_rest S (visit S d.left) d.walking right (state_of s) l W₁ l.ok)) IsOutcome r q
      → Answers p (λ S W. step S (visit S d.left) d.walking n (state_of s) W) IsOutcome r q
  unfolding step_kind
  step-seq {left} {right} e a = step-as (Seq left right) e a

  pub step-choice : {left right : ℕ} → k ≡ Choice left right
      → Answers p (λ S W. and_then (visit S d.left d.walking left (state_of s) W) (λ l W₁. choice_rest S (visit S d.left) d.walking right (state_of s) l W₁ (failed l.err (state_of s)))) IsOutcome r q
      → Answers p (λ S W. step S (visit S d.left) d.walking n (state_of s) W) IsOutcome r q
  unfolding step_kind
  step-choice {left} {right} e a = step-as (Choice left right) e a

  pub step-unbounded : {part required : ℕ} → k ≡ Unbounded part required
      → Answers p (λ S W. repeat_unbounded S (visit S d.left) d.walking n part required (state_of s) W) IsOutcome r q
      → Answers p (λ S W. step S (visit S d.left) d.walking n (state_of s) W) IsOutcome r q
  unfolding step_kind
  step-unbounded {part} {required} e a = step-as (Unbounded part required) e a

  pub step-bounded : {part required optional : ℕ} → k ≡ Bounded part required optional
      → Answers p (λ S W. repeat_bounded S (visit S d.left) d.walking part required optional (state_of s) W) IsOutcome r q
      → Answers p (λ S W. step S (visit S d.left) d.walking n (state_of s) W) IsOutcome r q
  unfolding step_kind
  step-bounded {part} {required} {optional} e a = step-as (Bounded part required optional) e a

module _ {p : Pass} (d : Down) (n : ℕ) (s : AbsStack) {k : Kind} {o : Code.Outcome} (read : KindAt p.names.image.bytes.now n k) where
  pub step-in-place : k ≡ InPlace → IsOutcome (succeeds (state_of s)) o → Answers p (λ S W. step S (visit S d.left) d.walking n (state_of s) W) IsOutcome (Ok o) p
  unfolding step_kind
  step-in-place q i = step-as d n s read InPlace q (answers-now i)

  pub step-match : k ≡ Match → IsOutcome (either (state_of s)) o → Answers p (λ S W. step S (visit S d.left) d.walking n (state_of s) W) IsOutcome (Ok o) p
  unfolding step_kind
  step-match q i = step-as d n s read Match q (answers-now i)

  pub step-push-literal : {len : ℕ} → k ≡ PushLiteral len → IsOutcome (of_push_literal max_len len (state_of s)) o
      → Answers p (λ S W. step S (visit S d.left) d.walking n (state_of s) W) IsOutcome (Ok o) p
  unfolding step_kind setup_of
  step-push-literal {len} q i = step-as d n s read (PushLiteral len) q (answers-by (answers-now i) (λ L W. refl))

-- a name's step, built-in names first
module _ {p : Pass} (d : Down) (s : AbsStack) {name : Name} {o : Code.Outcome} where
  name-as : (x : Name) → name ≡ x → Answers p (λ S W. step_kind S (visit S d.left) d.walking 0 (name_is x) (state_of s) W) IsOutcome (Ok o) p
      → Answers p (λ S W. step_kind S (visit S d.left) d.walking 0 (name_is name) (state_of s) W) IsOutcome (Ok o) p
  name-as x q a = rw q a

  pub ident-peek : name ≡ Stack B.Peek → IsOutcome (of_top (state_of s) (state_of s)) o → Answers p (λ S W. step_kind S (visit S d.left) d.walking 0 (name_is name) (state_of s) W) IsOutcome (Ok o) p
  unfolding step_kind
  ident-peek q i = name-as (Stack B.Peek) q (answers-now i)

  pub ident-peek-all : name ≡ Stack B.PeekAll → IsOutcome (of_peek_all (state_of s)) o → Answers p (λ S W. step_kind S (visit S d.left) d.walking 0 (name_is name) (state_of s) W) IsOutcome (Ok o) p
  unfolding step_kind
  ident-peek-all q i = name-as (Stack B.PeekAll) q (answers-now i)

  pub ident-pop : name ≡ Stack B.Pop → IsOutcome (of_top (state_of s) (popped_one (state_of s))) o
      → Answers p (λ S W. step_kind S (visit S d.left) d.walking 0 (name_is name) (state_of s) W) IsOutcome (Ok o) p
  unfolding step_kind
  ident-pop q i = name-as (Stack B.Pop) q (answers-now i)

  pub ident-pop-all : name ≡ Stack B.PopAll → IsOutcome (of_pop_all (state_of s)) o → Answers p (λ S W. step_kind S (visit S d.left) d.walking 0 (name_is name) (state_of s) W) IsOutcome (Ok o) p
  unfolding step_kind
  ident-pop-all q i = name-as (Stack B.PopAll) q (answers-now i)

  pub ident-drop : name ≡ Stack B.Drop → IsOutcome (of_drop (state_of s)) o → Answers p (λ S W. step_kind S (visit S d.left) d.walking 0 (name_is name) (state_of s) W) IsOutcome (Ok o) p
  unfolding step_kind
  ident-drop q i = name-as (Stack B.Drop) q (answers-now i)

  pub ident-unknown : name ≡ Unknown → IsOutcome (either (state_of s)) o → Answers p (λ S W. step_kind S (visit S d.left) d.walking 0 (name_is name) (state_of s) W) IsOutcome (Ok o) p
  unfolding step_kind
  ident-unknown q i = name-as Unknown q (answers-now i)

-- a rule's name asks about the rule's root, with walking off
pub ident-rule : {p q : Pass} (d : Down) (s : AbsStack) {name : Name} {root : ℕ} {r : Result Code.Outcome Refusal} → name ≡ Rule root
    → Answers p (λ S W. visit S d.left false root (state_of s) W) IsOutcome r q
    → Answers p (λ S W. step_kind S (visit S d.left) d.walking 0 (name_is name) (state_of s) W) IsOutcome r q
unfolding step_kind
ident-rule d s q a = rw q a
