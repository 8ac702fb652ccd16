-- What holds of everything in a list: of lists put together, of lists put in order, of what a pass comes to. Assumes nothing.
use mathlib.Core.Path.{sym, subst}
use mathlib.Core.Bool.{Bool, true, false, cond}
use mathlib.Core.List.{List, [], ◌∷◌, ◌++◌}
use mathlib.Core.Logic.{inl, inr}
use Prim.Native.Nat.{ℕ, suc, ◌<◌}
use native.Mathlib.Omega.{arith}
use lib.Dec.{leb}
use lib.ListN.{length, get_or}
use Rattle.machine.specs.Lists.{Mem}
use Rattle.passes.specs.Report.{Result, refused, done, onward, place_if, place, flat}
use Rattle.passes.specs.Order.{insert_if, insert, insert_all}

-- it holds of each of these
abbrev pub Every : {A : Type 0} → (A → Type 0) → List A → Type 0
Every P [] = Unit {0}
Every P (x ∷ xs) = P x × Every P xs

module _ {A : Type 0} (P : A → Type 0) where
  pub every-at : (xs : List A) → Every P xs → (x : A) → Mem x xs → P x
  every-at [] h x m = absurd m
  every-at (y ∷ xs) h x (inl e) = subst P (sym e) h.0
  every-at (y ∷ xs) h x (inr m) = every-at xs h.1 x m

  pub every-numbered : (d : A) (xs : List A) → ((i : ℕ) → i < length xs → P (get_or xs i d)) → Every P xs
  every-numbered d [] h = tt
  every-numbered d (x ∷ xs) h = (h 0 (omega arith), every-numbered d xs (λ i l. h (suc i) (omega arith)))

  pub every_append : (xs ys : List A) → Every P xs → Every P ys → Every P (xs ++ ys)
  every_append [] ys h k = k
  every_append (x ∷ xs) ys h k = (h.0, every_append xs ys h.1 k)

  pub every-or-none : (t : Bool) (xs : List A) → Every P xs → Every P (cond t [] xs)
  every-or-none true xs h = tt
  every-or-none false xs h = h

pub every-flat : {A : Type 0} (Q : A → Type 0) (P : ℕ → Type 0) (f : A → List ℕ) → ((x : A) → Q x → Every P (f x))
    → (xs : List A) → Every Q xs → Every P (flat f xs)
unfolding flat
every-flat Q P f h [] k = tt
every-flat Q P f h (x ∷ xs) k = every_append P (f x) (flat f xs) (h x k.0) (every-flat Q P f h xs k.1)

-- putting in order changes nothing of it
module _ (P : ℕ → Type 0) (less : ℕ → ℕ → Bool) where
  every-insert : (x : ℕ) → P x → (ys : List ℕ) → Every P ys → Every P (insert less x ys)
  unfolding insert
  every-insert x p [] h = (p, tt)
  every-insert x p (y ∷ ys) h = go (less x y) (every-insert x p ys h.1)
    where
      go : (t : Bool) → Every P (insert less x ys) → Every P (insert_if x y ys (insert less x ys) t)
      go true k = (p, h)
      go false k = (h.0, k)

  pub every-ordered : (ys : List ℕ) → Every P ys → (xs : List ℕ) → Every P xs → Every P (insert_all less ys xs)
  unfolding insert_all
  every-ordered ys h [] k = h
  every-ordered ys h (x ∷ xs) k = every-ordered (insert less x ys) (every-insert x k.0 ys h) xs k.1

-- it holds of each report, if the pass did not refuse
abbrev pub Gives : (ℕ → Type 0) → Result → Type 0
Gives P (refused k) = Unit {0}
Gives P (done found) = Every P found

module _ (P : ℕ → Type 0) where
  pub gives-onward : (a : Result) (f : List ℕ → Result) → Gives P a → ((found : List ℕ) → Every P found → Gives P (f found)) → Gives P (onward a f)
  gives-onward (refused k) f g h = tt
  gives-onward (done found) f g h = h found g

  pub gives-if : (found : List ℕ) → Every P found → (t : Bool) → Gives P (place_if found t)
  gives-if found h true = h
  gives-if found h false = tt

  pub gives-place : (places : ℕ) (found more : List ℕ) → Every P found → Every P more → Gives P (place places found more)
  unfolding place
  gives-place places found more h k = gives-if (found ++ more) (every_append P found more h k) (leb (length (found ++ more)) places)
