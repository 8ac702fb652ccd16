-- "Bounded runs follow their period: the state after all copies is read off it." That state is where so many copies lead.
-- Assumes nothing.
use mathlib.Core.Path.{◌≡◌, refl, sym, ap, ◌∙◌, subst}
use mathlib.Core.Bool.{Bool, true}
use mathlib.Core.List.{List, [], ◌∷◌}
use mathlib.Core.Logic.{inr}
use mathlib.Core.Option.{some}
use Prim.Native.Nat.{ℕ, zero, suc, ◌+◌, ◌-◌, ◌%◌, ◌≤◌, ◌<◌}
use native.Mathlib.Nat.{mod-eq_of_lt, add-mod_right, not-suc-le-zero}
use native.Mathlib.Omega.{arith}
use lib.ListN.{length, get_or}
use Rattle.stack.specs.State.{State}
use Rattle.machine.specs.Kind.{Nodes}
use Rattle.machine.specs.Outcome.{Maybe, Outcome}
use Rattle.machine.proofs.Turns.{Copy, copy-weaker, Copies}
use Rattle.asking.specs.Runs.{place, read_off}
use Rattle.asking.proofs.Tests.{PlacedAt, place-says}

module _ (nodes : Nodes) (part : ℕ) (next : State → Outcome → Maybe) where
  -- a copy leads from s to t
  unfoldable pub Link : Bool → Bool → State → State → Type 0
  Link empty fails s t = (o : Outcome) × Copy nodes part empty fails s o × (next s o ≡ some t)

  -- each start of the trace, newest first, leads to the one after it, and the newest to s
  unfoldable pub Linked : Bool → Bool → List State → State → Type 0
  Linked empty fails [] s = Unit {0}
  Linked empty fails (t ∷ trace) s = Link empty fails t s × Linked empty fails trace t

  pub linked-weaker : (empty fails empty₁ fails₁ : Bool) → (empty₁ ≡ true → empty ≡ true) → (fails ≡ true → fails₁ ≡ true)
      → (trace : List State) (s : State)
      → Linked empty fails trace s → Linked empty₁ fails₁ trace s
  unfolding Linked Link
  linked-weaker empty fails empty₁ fails₁ e f [] s h = tt
  linked-weaker empty fails empty₁ fails₁ e f (t ∷ trace) s h =
      let k = h.0 in
      ((k.0, copy-weaker nodes part empty fails empty₁ fails₁ t k.0 e f k.1, k.2), linked-weaker empty fails empty₁ fails₁ e f trace t h.1)

  link_at : (empty fails : Bool) (trace : List State) (s d : State) → Linked empty fails trace s → (k : ℕ) → suc k < length trace
      → Link empty fails (get_or trace (suc k) d) (get_or trace k d)
  unfolding Linked
  link_at empty fails [] s d h k l = absurd (not-suc-le-zero l)
  link_at empty fails (t ∷ []) s d h k l = absurd (omega arith)
  link_at empty fails (t ∷ u ∷ trace) s d h zero l = h.1.0
  link_at empty fails (t ∷ u ∷ trace) s d h (suc k) l = link_at empty fails (u ∷ trace) t d h.1 k (omega arith)

  -- the place c copies after place k, the places going from i down to 0 and round again
  around : ℕ → ℕ → ℕ → ℕ
  around i k zero = k
  around i zero (suc c) = around i i c
  around i (suc k) (suc c) = around i k c

  link-first : (empty fails : Bool) (s t : State) (m : ℕ) (v : Maybe) → Link empty fails s t → Copies nodes part next empty fails m t v
      → Copies nodes part next empty fails (suc m) s v
  unfolding Link Copies
  link-first empty fails s t m v k h = (k.0, k.1, inr (t, k.2, h))

  copies-around : (empty fails : Bool) (trace : List State) (s : State) (i : ℕ) → Linked empty fails trace s → i < length trace → get_or trace i s ≡ s
      → (c k : ℕ) → k ≤ i → Copies nodes part next empty fails c (get_or trace k s) (some (get_or trace (around i k c) s))
  unfolding Copies around Linked
  copies-around empty fails trace s i h l e zero k j = refl
  copies-around empty fails [] s i h l e (suc c) zero j = absurd (not-suc-le-zero l)
  copies-around empty fails (t ∷ trace) s i h l e (suc c) zero j =
      link-first empty fails t s c (some (get_or (t ∷ trace) (around i i c) s)) h.0
      (subst (λ x. Copies nodes part next empty fails c x (some (get_or (t ∷ trace) (around i i c) s))) e
      (copies-around empty fails (t ∷ trace) s i h l e c i (omega arith)))
  copies-around empty fails trace s i h l e (suc c) (suc k) j =
      link-first empty fails (get_or trace (suc k) s) (get_or trace k s) c _ (link_at empty fails trace s s h k (omega arith))
      (copies-around empty fails trace s i h l e c k (omega arith))

  around-is : (i c k : ℕ) → k ≤ i → around i k c ≡ i - (c + (i - k)) % suc i
  unfolding around
  around-is i zero k j = let m : (0 + (i - k)) % suc i ≡ 0 + (i - k) = mod-eq_of_lt (omega arith) in rw m (omega arith)
  around-is i (suc c) zero j =
      let e : suc c + (i - 0) ≡ c + (i - i) + suc i = omega arith in
      around-is i c i (omega arith) ∙ ap (λ y. i - y) (sym (ap (λ y. y % suc i) e ∙ add-mod_right (c + (i - i)) (suc i)))
  around-is i (suc c) (suc k) j =
      let e : c + (i - k) ≡ suc c + (i - suc k) = omega arith in
      around-is i c k (omega arith) ∙ ap (λ y. i - y % suc i) e

  pub lasso : (empty fails : Bool) (trace : List State) (s : State) (c i : ℕ) → Linked empty fails trace s → place s trace ≡ some i
      → Copies nodes part next empty fails c s (some (read_off trace i c s))
  lasso empty fails trace s c i h e =
      let k : PlacedAt s trace (some i) = subst (λ v. PlacedAt s trace v) e (place-says s trace) in
      let z : c + (i - i) ≡ c = omega arith in
      let p : around i i c ≡ i - c % suc i = around-is i c i (omega arith) ∙ ap (λ y. i - y % suc i) z in
      subst (λ x. Copies nodes part next empty fails c x (some (read_off trace i c s))) k.1
      (subst (λ y. Copies nodes part next empty fails c (get_or trace i s) (some (get_or trace y s))) p
      (copies-around empty fails trace s i h k.0 k.1 c i (omega arith)))
