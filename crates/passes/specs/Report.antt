-- The places that reports take, and what a pass comes to (document 01, "What comes back"). Assumes nothing.
use Rattle.std.specs.Prelude.{Bool, true, false, List, [], ◌∷◌, ◌++◌, ℕ, leb, length}

-- one of the numbered refusals, or the reports
pub data Result : Type 0 where
  refused : ℕ → Result
  done : List ℕ → Result

abbrev pub onward : Result → (List ℕ → Result) → Result
onward (refused k) f = refused k
onward (done found) f = f found

-- "10: a report is due and none is free"
abbrev pub place_if : List ℕ → Bool → Result
place_if found true = done found
place_if found false = refused 10

-- the reports found so far with those of a pass behind them, in so many places
unfoldable pub place : ℕ → List ℕ → List ℕ → Result
place places found more = place_if (found ++ more) (leb (length (found ++ more)) places)

-- what a function finds at each of a list, in its order
unfoldable pub flat : {A : Type 0} → (A → List ℕ) → List A → List ℕ
flat f [] = []
flat f (x ∷ xs) = f x ++ flat f xs
