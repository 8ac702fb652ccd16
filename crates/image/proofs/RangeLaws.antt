-- A search of the numbers below a bound, as a range's `any` makes it, is `any_below`. Assumes nothing.
use Prim.Native.Nat.{ℕ, suc, zero, ◌+◌, ◌≤◌}
use mathlib.Core.Path.{◌≡◌, refl, ap, ◌∙◌}
use mathlib.Core.Bool.{Bool, true, false, or-false}
use mathlib.Core.List.{List, [], ◌∷◌, ◌++◌}
use native.Mathlib.Numerals.{add-one}
use native.Mathlib.Omega.{arith}
use lib.ListN.{length, get_or, take}
use denote.Param.Members.{Mut}
use Rattle.std.specs.declared.ops.Range.{Range}
use Rattle.std.proofs.iter.Yields.{nat_range_steps}
use Rattle.std.proofs.lemmas.Iterator.{YieldsList-from_range}
use Rattle.std.proofs.lemmas.Iterator.Search.{any_from_yields_List}
use Rattle.std.proofs.lemmas.List.Folds.{list_any-append, list_any_more}
use Rattle.std.specs.Fn.{Called}
use Rattle.std.specs.Iterator.{YieldsThen}
use Rattle.std.specs.List.{FoldsTo, list_any, range_with_len}
use Rattle.std.specs.Option.{MatchOption}
use Rattle.std.specs.Prelude.{Option}
use Rattle.image.specs.Lists.{any_below}

range-last : (a n : ℕ) → range_with_len a (suc n) ≡ range_with_len a n ++ ((a + n) ∷ [])
range-last a zero = let e : a ≡ a + 0 = omega arith in cc
range-last a (suc n) = let e : a + suc n ≡ a + 1 + n = omega arith in let h = range-last (a + 1) n in cc

any-listed : (f : ℕ → Bool) (n : ℕ) → list_any f (range_with_len 0 n) ≡ any_below f n
unfolding any_below
any-listed f zero = refl
any-listed f (suc n) =
    let e : 0 + n ≡ n = omega arith in
    ap (list_any f) (range-last 0 n) ∙ list_any-append f (range_with_len 0 n) ((0 + n) ∷ []) ∙ rw (e, or-false, any-listed f n)

-- a range's `any`, by what each call of its closure answers
pub any_range :
    {F : Type 0} {g : Mut F (ℕ × Unit {0}) Bool} (f : ℕ → Bool) {s u : Range ℕ} {c : F} (r : Bool) (m n : ℕ) → s ≡ record { start = 0; end = m } → m ≡ n →
    (xs : List ℕ) × (o : Option ℕ) × (j : F) × YieldsThen nat_range_steps s xs o u × FoldsTo (λ p x q. Called g p (x, tt) false q) c xs j × MatchOption o (r ≡ false) (λ x. (r ≡ true) × ((h : F) × Called g j (x, tt) true h)) →
    ((x : ℕ) (b : Bool) (q : F) → Called g c (x, tt) b q → (q ≡ c) × (b ≡ f x)) →
    r ≡ any_below f n
any_range f {u = u} {c = c} r m n e q ran k = any_from_yields_List f u c r ran (YieldsList-from_range 0 m m e (omega arith)) k ∙ any-listed f m ∙ ap (any_below f) q

-- a test of the first numbers of a list
pub any-first : (p : ℕ → Bool) (xs : List ℕ) (n : ℕ) → n ≤ length xs → list_any p (take n xs) ≡ any_below (λ k. p (get_or xs k 0)) n
unfolding any_below
any-first p xs zero h = refl
any-first p xs (suc n) h = rw (← add-one n, list_any_more p xs n 0 (omega arith), any-first p xs n (omega arith))
