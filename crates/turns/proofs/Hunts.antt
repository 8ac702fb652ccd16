-- What a turn that succeeded and consumed nothing makes of a search for a loop. Assumes nothing.
use Rattle.std.specs.Prelude.{Option, Some, None}
use mathlib.Core.Path.{◌≡◌, refl, sym, ap, subst⁻¹, ◌∙◌}
use mathlib.Core.Bool.{Bool, true, false}
use mathlib.Core.List.{List, ◌∷◌}
use Prim.Native.Nat.{ℕ}
use Rattle.stack.specs.declared.AbsStack.{AbsStack}
use Rattle.stack.specs.State.{State, max_len}
use Rattle.stack.specs.Number.{number_of, state_at, NumberOfState}
use Rattle.stack.specs.Promise.{state_of, WellFormed}
use Rattle.stack.proofs.Numbers.{state_at-number_of}
use Rattle.asking.specs.Runs.{any_same_top}
use Rattle.outcomes.proofs.Within.{state-within}
use Rattle.starts.specs.declared.Starts.{Starts}
use Rattle.starts.specs.Promise.{starts_of, Begun, More}
use Rattle.turns.specs.Promise.{HuntedIf, HuntedOn}

-- the number that a well-formed state is packed as
pub packed-number : (s : AbsStack) {x : ℕ} → WellFormed max_len s → x ≡ number_of (state_of s) → NumberOfState max_len x
packed-number s h e = record { state = state_of s; within = state-within s h; number = sym e }

packed-state : (s : AbsStack) {x : ℕ} → WellFormed max_len s → x ≡ number_of (state_of s) → state_at x ≡ state_of s
packed-state s h e = rw e (state_at-number_of (state_of s) (state-within s h))

hunted-by : {seen : Starts} {cur out : AbsStack} {r : Option Starts} (intact again : Bool)
    → out.intact ≡ intact → any_same_top (state_of out) (state_of cur ∷ starts_of seen) ≡ again → HuntedIf seen cur r intact again → HuntedOn seen cur out r
hunted-by {seen} {cur} {out} {r} intact again p q h =
    record { says = subst⁻¹ (λ (t : Bool). HuntedIf seen cur r t (any_same_top (state_of out) (state_of cur ∷ starts_of seen))) p (subst⁻¹ (HuntedIf seen cur r intact) q h) }

-- the list below the cut may have changed
pub hunt-cleared : {seen : Starts} {cur out : AbsStack} {all : Starts} → out.intact ≡ false → Begun all → HuntedOn seen cur out (Some all)
hunt-cleared {seen} {cur} {out} e b = hunted-by false (any_same_top (state_of out) (state_of cur ∷ starts_of seen)) e refl b

-- the list below the cut is intact, and `again` says whether a start has come round
module _ {seen all : Starts} {cur out : AbsStack} {x y : ℕ} {again : Bool}
    (intact : out.intact ≡ true) (hc : WellFormed max_len cur) (ho : WellFormed max_len out)
    (px : x ≡ number_of (state_of cur)) (py : y ≡ number_of (state_of out)) (m : More seen x all) (t : again ≡ any_same_top (state_at y) (starts_of all)) where
  same_test : any_same_top (state_of out) (state_of cur ∷ starts_of seen) ≡ again
  same_test =
      sym
      (t
      ∙ ap (λ (s : State). any_same_top s (starts_of all)) (packed-state out ho py)
      ∙ ap (λ (ss : List State). any_same_top (state_of out) ss) (m.starts ∙ ap (λ (s : State). s ∷ starts_of seen) (packed-state cur hc px)))

  pub hunt-loops : again ≡ true → HuntedOn seen cur out None
  hunt-loops e = hunted-by true true intact (same_test ∙ e) refl

  pub hunt-further : again ≡ false → HuntedOn seen cur out (Some all)
  hunt-further e = hunted-by true false intact (same_test ∙ e) (rw (← px) m)
