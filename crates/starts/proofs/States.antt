-- Two states are the same exactly if their numbers are, and have the same tracked entries exactly if the lower 12 bits are.
-- Assumes nothing.
use mathlib.Core.Path.{◌≡◌, refl, sym, ap, ◌∙◌}
use mathlib.Core.Bool.{Bool, true, false, true≢false, ◌&&◌}
use Prim.Native.Nat.{ℕ, ◌+◌, ◌*◌, ◌%◌}
use native.Mathlib.Omega.{arith}
use lib.Dec.{eqb}
use lib.ListN.{length}
use borrow.Author.Tests.{eq-eqb, eqb-true}
use Rattle.stack.specs.declared.Base.{Base}
use Rattle.stack.specs.declared.Base.TheVariants.{Empty, Blank, Any}
use Rattle.stack.specs.State.{State, Within, max_len, same_bit, same_tops, same_top}
use Rattle.stack.specs.Number.{bits, number_of, state_at, NumberOfState}
use Rattle.stack.proofs.Coverage.{and_left, and_right}
use Rattle.stack.proofs.Bits.{same_bit-refl, same_tops-refl, same_tops-eq, bits-one}
use Rattle.stack.proofs.Numbers.{number_of-one, state_at-number_of, blank-lt}
use Rattle.asking.specs.World.{same_base, same_state}

bit-eq : (a b : Bool) → same_bit a b ≡ true → a ≡ b
bit-eq true b e = sym e
bit-eq false true e = absurd (true≢false (sym e))
bit-eq false false e = refl

base-refl : (b : Base) → same_base b b ≡ true
base-refl Empty = refl
base-refl Blank = refl
base-refl Any = refl

base-eq : (a b : Base) → same_base a b ≡ true → a ≡ b
base-eq Empty Empty e = refl
base-eq Empty Blank e = absurd (true≢false (sym e))
base-eq Empty Any e = absurd (true≢false (sym e))
base-eq Blank Empty e = absurd (true≢false (sym e))
base-eq Blank Blank e = refl
base-eq Blank Any e = absurd (true≢false (sym e))
base-eq Any Empty e = absurd (true≢false (sym e))
base-eq Any Blank e = absurd (true≢false (sym e))
base-eq Any Any e = refl

pub same_state-refl : (s : State) → same_state s s ≡ true
same_state-refl s = rw (base-refl s.base, same_tops-refl s.tops, same_bit-refl s.intact)

pub same_state-eq : (a b : State) → same_state a b ≡ true → a ≡ b
same_state-eq a b e =
    let p = same_base a.base b.base in
    let q = same_tops a.tops b.tops in
    let r = same_bit a.intact b.intact in
    let pq = and_left (p && q) r e in
    let eb = base-eq a.base b.base (and_left p q pq) in
    let et = same_tops-eq a.tops b.tops (and_right p q pq) in
    let ei = bit-eq a.intact b.intact (and_right (p && q) r e) in
    λ i. record { base = eb i; tops = et i; intact = ei i }

-- two tests that pass in the same cases
pub test_iff : (t u : Bool) → (t ≡ true → u ≡ true) → (u ≡ true → t ≡ true) → t ≡ u
test_iff true u f g = sym (f refl)
test_iff false true f g = g refl
test_iff false false f g = refl

pub same_state-number : (a b : State) → Within max_len a → Within max_len b → same_state a b ≡ eqb (number_of a) (number_of b)
same_state-number a b ha hb =
    test_iff (same_state a b) (eqb (number_of a) (number_of b))
    (λ e. eq-eqb (number_of a) (number_of b) (ap number_of (same_state-eq a b e)))
    (λ e. rw (← number_of-one a b ha hb (eqb-true (number_of a) (number_of b) e)) (same_state-refl a))

-- the lower 12 bits of a state's number: its tracked entries
number-low : (s : State) → Within max_len s → number_of s % 4096 ≡ bits s.tops + 256 * length s.tops
unfolding number_of
number-low s l = let m = blank-lt s.tops l in omega arith

-- the states of two numbers
module _ (x y : ℕ) (hx : NumberOfState max_len x) (hy : NumberOfState max_len y) where
  at_x : state_at x ≡ hx.state
  at_x = rw (← hx.number) (state_at-number_of hx.state hx.within)

  at_y : state_at y ≡ hy.state
  at_y = rw (← hy.number) (state_at-number_of hy.state hy.within)

  pub same_state-numbers : same_state (state_at x) (state_at y) ≡ eqb x y
  same_state-numbers =
      rw (at_x, at_y) (same_state-number hx.state hy.state hx.within hy.within)
      ∙ ap (λ k. eqb k (number_of hy.state)) hx.number ∙ ap (λ k. eqb x k) hy.number

  pub same_top-numbers : same_top (state_at x) (state_at y) ≡ eqb (x % 4096) (y % 4096)
  unfolding same_top
  same_top-numbers =
      rw (at_x, at_y)
      (test_iff (same_tops hx.state.tops hy.state.tops) (eqb (x % 4096) (y % 4096))
      (λ e. eq-eqb (x % 4096) (y % 4096) (low_x ∙ ap (λ ts. bits ts + 256 * length ts) (same_tops-eq hx.state.tops hy.state.tops e) ∙ sym low-y))
      (λ e. rw (← same-tops (sym low_x ∙ eqb-true (x % 4096) (y % 4096) e ∙ low-y)) (same_tops-refl hx.state.tops)))
    where
      low_x : x % 4096 ≡ bits hx.state.tops + 256 * length hx.state.tops
      low_x = rw (← hx.number) (number-low hx.state hx.within)

      low-y : y % 4096 ≡ bits hy.state.tops + 256 * length hy.state.tops
      low-y = rw (← hy.number) (number-low hy.state hy.within)

      same-tops : bits hx.state.tops + 256 * length hx.state.tops ≡ bits hy.state.tops + 256 * length hy.state.tops → hx.state.tops ≡ hy.state.tops
      same-tops e =
          let a = blank-lt hx.state.tops hx.within in
          let b = blank-lt hy.state.tops hy.within in
          let l : length hx.state.tops ≡ length hy.state.tops = omega arith in
          bits-one hx.state.tops hy.state.tops l (omega arith)
