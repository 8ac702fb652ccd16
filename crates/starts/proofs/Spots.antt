-- Where a state stands among the starts, found from the newest on; one start more. Assumes nothing.
use mathlib.Core.Path.{◌≡◌, refl, ap, ◌∙◌}
use mathlib.Core.Bool.{Bool, true, false, ◌||◌}
use mathlib.Core.List.{List, ◌∷◌}
use mathlib.Core.Option.{some}
use Prim.Native.Nat.{ℕ, zero, suc, ◌+◌, ◌-◌, ◌%◌, ◌≤◌, ◌<◌}
use Prim.Native.Nat.compare
use native.Mathlib.Numerals.{add-one, one-add}
use native.Mathlib.Omega.{arith}
use lib.Dec.{eqb}
use lib.ListN.{get_or, set, length-set}
use lib.Seq.{get_or-set_same, get_or-set_other, take-suc}
use borrow.Author.Tests.{eqb-true, eqb-false, lt-ltb}
use Rattle.std.specs.Prelude.{length, take, reverse, position, cond, not, nat_lt, ◌==◌, Some, None, []}
use Rattle.std.specs.List.{list_any, position_or_len}
use Rattle.std.proofs.Math.Bool.{or_comm}
use Rattle.std.proofs.lemmas.List.{reverse-append}
use Rattle.std.proofs.lemmas.List.Folds.{list_any-append}
use Rattle.stack.specs.State.{State, max_len}
use Rattle.stack.specs.Number.{state_at, NumberOfState}
use Rattle.asking.specs.Runs.{one_more, place, any_same_top}
use Rattle.starts.specs.declared.Starts.{Starts}
use Rattle.starts.specs.Promise.{newest_first, Numbered, More, place_of}
use Rattle.starts.proofs.States.{same_state-numbers, same_top-numbers}

-- the start so many places back
pub start-at : (states : List ℕ) (n back : ℕ) → back < n → (other : State) → state_at (get_or states (n - 1 - back) 0) ≡ get_or (newest_first states n) back other
unfolding newest_first
start-at states zero back l other = absurd (omega arith)
start-at states (suc n) zero l other = let q : suc n - 1 - 0 ≡ n = omega arith in rw q
start-at states (suc n) (suc back) l other = let q : suc n - 1 - suc back ≡ n - 1 - back = omega arith in rw q (start-at states n back (omega arith) other)

-- the numbers of the first starts, the newest first
newest : (states : List ℕ) (n : ℕ) → suc n ≤ length states → reverse (take (suc n) states) ≡ get_or states n 0 ∷ reverse (take n states)
newest states n l = ap reverse (take-suc states n 0 (omega arith)) ∙ reverse-append (take n states) (get_or states n 0 ∷ [])

-- the first place at which p passes, from the newest start on
place-cons : (p : ℕ → Bool) (y : ℕ) (ys : List ℕ) → place_of (position p (y ∷ ys)) ≡ cond (p y) (some 0) (one_more (place_of (position p ys)))
place-cons p y ys = passes (p y)
  where
    k : ℕ
    k = position_or_len p ys

    later : (b : Bool) → place_of (cond b (Some (suc k)) None) ≡ one_more (place_of (cond b (Some k) None))
    later true = refl
    later false = refl

    passes : (b : Bool)
        → place_of (cond (nat_lt (cond (not b) (1 + k) 0) (suc (length ys))) (Some (cond (not b) (1 + k) 0)) None) ≡ cond b (some 0) (one_more (place_of (position p ys)))
    passes true = rw (lt-ltb 0 (suc (length ys)) (omega arith)) refl
    passes false = rw (one-add, compare.suc-suc) (later (nat_lt k (length ys)))

module _ (states : List ℕ) (x : ℕ) (hx : NumberOfState max_len x) where
  -- the number's place among the first n numbers read backwards is the state's place among their states
  pub place-found : (n : ℕ) → n ≤ length states → ((i : ℕ) → i < n → NumberOfState max_len (get_or states i 0))
      → place_of (position (λ there. x == there) (reverse (take n states))) ≡ place (state_at x) (newest_first states n)
  unfolding newest_first
  place-found zero l each = refl
  place-found (suc n) l each =
      let y = get_or states n 0 in
      rw (newest states n l, same_state-numbers x y hx (each n (omega arith)), ← place-found n (omega arith) (λ i k. each i (omega arith)))
      (place-cons (λ there. x == there) y (reverse (take n states)))

  -- a number among the first n with the same lower 12 bits is a start with the same tracked entries
  pub match-found : (n : ℕ) → n ≤ length states → ((i : ℕ) → i < n → NumberOfState max_len (get_or states i 0))
      → list_any (λ there. x % 4096 == there % 4096) (take n states) ≡ any_same_top (state_at x) (newest_first states n)
  unfolding newest_first
  match-found zero l each = refl
  match-found (suc n) l each =
      let y = get_or states n 0 in
      let same : ℕ → Bool = λ there. x % 4096 == there % 4096 in
      rw (take-suc states n 0 (omega arith), list_any-append same (take n states) (y ∷ []), same_top-numbers x y hx (each n (omega arith)), ← match-found n (omega arith) (λ i k. each i (omega arith)))
      (or_comm (list_any same (take n states)) (same y || false) ∙ ap (λ b. b || list_any same (take n states)) (or_comm (same y) false))

-- a start stored past the first n leaves them
newest-kept : (states : List ℕ) (n m x : ℕ) → n ≤ m → newest_first (set states m x) n ≡ newest_first states n
unfolding newest_first
newest-kept states zero m x l = refl
newest-kept states (suc n) m x l = λ i. state_at (get_or-set_other states m n x 0 (λ e. omega arith) i) ∷ newest-kept states n m x (omega arith) i

pub more-starts : (run : Starts) (x : ℕ) → Numbered run → run.count < 65 → NumberOfState max_len x
    → More run x (record { states = set run.states run.count x; count = run.count + 1 })
unfolding newest_first
more-starts run x h l hx =
    record {
      is = refl;
      count = refl;
      starts = rw add-one (λ i. state_at (get_or-set_same run.states run.count x 0 (omega (arith, h.long)) i) ∷ newest-kept run.states run.count run.count x (omega arith) i);
      numbered = record { few = omega arith; long = length-set run.states run.count x ∙ h.long; each = λ i b. each i b (eqb i run.count) refl };
    }
  where
    each : (i : ℕ) → i < run.count + 1 → (t : Bool) → eqb i run.count ≡ t → NumberOfState max_len (get_or (set run.states run.count x) i 0)
    each i b true e = rw (eqb-true i run.count e, get_or-set_same run.states run.count x 0 (omega (arith, h.long))) hx
    each i b false e = rw (get_or-set_other run.states run.count i x 0 (eqb-false i run.count e)) (h.each i (let ne = eqb-false i run.count e in omega arith))
