-- What the tests of asking tell: same states, same pairs, a state's place in a trace, an earlier start. Assumes nothing.
use mathlib.Core.Path.{◌≡◌, refl, sym}
use mathlib.Core.Bool.{Bool, true, false, ◌&&◌, ◌||◌, cond, false≢true}
use mathlib.Core.List.{List, [], ◌∷◌}
use mathlib.Core.Logic.{inl, inr}
use mathlib.Core.Option.{Option, none, some}
use Prim.Native.Nat.{ℕ, ◌<◌}
use native.Mathlib.Omega.{arith}
use lib.Dec.{eqb}
use lib.ListN.{length, get_or}
use borrow.Author.Tests.{eqb-true}
use Rattle.stack.specs.declared.Base.{Base}
use Rattle.stack.specs.declared.Base.TheVariants.{Empty, Blank, Any}
use Rattle.stack.specs.State.{State, same_bit, same_tops, same_top}
use Rattle.stack.proofs.Coverage.{and_left, and_right}
use Rattle.stack.proofs.Bits.{same_tops-eq}
use Rattle.machine.specs.Lists.{Mem}
use Rattle.asking.specs.World.{Pair, same_base, same_state, is_pair}
use Rattle.asking.specs.Runs.{one_more, place, any_same_top}

pub or_left : (a b : Bool) → a ≡ true → a || b ≡ true
or_left true b e = refl
or_left false b e = absurd (false≢true e)

pub or_right : (a b : Bool) → b ≡ true → a || b ≡ true
or_right true b e = refl
or_right false b e = e

same_bit-is : (a b : Bool) → same_bit a b ≡ true → a ≡ b
same_bit-is true b e = sym e
same_bit-is false true e = e
same_bit-is false false e = refl

same_base-is : (a b : Base) → same_base a b ≡ true → a ≡ b
same_base-is Empty Empty e = refl
same_base-is Empty Blank e = absurd (false≢true e)
same_base-is Empty Any e = absurd (false≢true e)
same_base-is Blank Empty e = absurd (false≢true e)
same_base-is Blank Blank e = refl
same_base-is Blank Any e = absurd (false≢true e)
same_base-is Any Empty e = absurd (false≢true e)
same_base-is Any Blank e = absurd (false≢true e)
same_base-is Any Any e = refl

pub same_state-is : (a b : State) → same_state a b ≡ true → a ≡ b
same_state-is a b e =
    let first_two = and_left (same_base a.base b.base && same_tops a.tops b.tops) (same_bit a.intact b.intact) e in
    let base = same_base-is a.base b.base (and_left (same_base a.base b.base) (same_tops a.tops b.tops) first_two) in
    let tops = same_tops-eq a.tops b.tops (and_right (same_base a.base b.base) (same_tops a.tops b.tops) first_two) in
    let intact = same_bit-is a.intact b.intact (and_right (same_base a.base b.base && same_tops a.tops b.tops) (same_bit a.intact b.intact) e) in
    λ i. record { base = base i; tops = tops i; intact = intact i }

pub pair_is : (n : ℕ) (s : State) (p : Pair) → is_pair n s p ≡ true → p ≡ record { node = n; state = s }
pair_is n s p e =
    let node = eqb-true n p.node (and_left (eqb n p.node) (same_state s p.state) e) in
    let state = same_state-is s p.state (and_right (eqb n p.node) (same_state s p.state) e) in
    λ i. record { node = sym node i; state = sym state i }

-- the place of a state in a trace
abbrev pub PlacedAt : State → List State → Option ℕ → Type 0
PlacedAt s trace none = Unit {0}
PlacedAt s trace (some i) = (i < length trace) × (get_or trace i s ≡ s) × Mem s trace

pub place-says : (s : State) (trace : List State) → PlacedAt s trace (place s trace)
place-says s [] = tt
place-says s (t ∷ trace) = go (same_state s t) refl (place s trace) (place-says s trace)
  where
    go : (b : Bool) → same_state s t ≡ b → (v : Option ℕ) → PlacedAt s trace v → PlacedAt s (t ∷ trace) (cond b (some 0) (one_more v))
    go true e v w = (omega arith, sym (same_state-is s t e), inl (same_state-is s t e))
    go false e none w = tt
    go false e (some i) w = (omega arith, w.1, inr w.2)

pub any_same_top-says : (out : State) (seen : List State) → any_same_top out seen ≡ true
    → (e : State) × Mem e seen × (same_top out e ≡ true)
any_same_top-says out [] t = absurd (false≢true t)
any_same_top-says out (s ∷ seen) t = go (same_top out s) refl (any_same_top-says out seen) t
  where
    go : (b : Bool) → same_top out s ≡ b → (any_same_top out seen ≡ true → (e : State) × Mem e seen × (same_top out e ≡ true))
        → b || any_same_top out seen ≡ true → (e : State) × Mem e (s ∷ seen) × (same_top out e ≡ true)
    go true h f t = (s, inl refl, h)
    go false h f t = let r = f t in (r.0, inr r.1, r.2)
