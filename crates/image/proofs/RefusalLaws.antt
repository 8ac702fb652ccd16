-- A refusal has its own number: two results with the same number are equal. Assumes nothing.
use Rattle.std.specs.Prelude.{◌≡◌, refl, ℕ, Result, Ok, Err, Option, Some, None, ◌<◌, [], ◌∷◌, get_or}
use Rattle.std.proofs.Common.{arith}
use mathlib.Core.Path.{sym, ◌∙◌, ap}
use Rattle.image.specs.declared.refusal.Refusal.{Refusal}
use Rattle.image.specs.declared.refusal.Refusal.TheVariants.{TooShort, OverLimit, Misplaced, BadNode, BadRule, SharedName, PartRule, OutcomesFull, WalkedFull, ReportsFull, ManyStarts, TooDeep, LongSearch}
use Rattle.image.specs.RefusalNumber.{refusal_number, number_of, OfNumber}

-- the refusal of a number: its place in the list, where that of 0 is no refusal's
abbrev pub refusal_at : ℕ → Refusal
refusal_at n =
    get_or (TooShort ∷ TooShort ∷ OverLimit ∷ Misplaced ∷ BadNode ∷ BadRule ∷ SharedName ∷ PartRule ∷ OutcomesFull ∷ WalkedFull ∷ ReportsFull ∷ ManyStarts ∷ TooDeep ∷ []) n LongSearch

pub refusal_at-number : (k : Refusal) → refusal_at (refusal_number k) ≡ k
refusal_at-number TooShort = refl
refusal_at-number OverLimit = refl
refusal_at-number Misplaced = refl
refusal_at-number BadNode = refl
refusal_at-number BadRule = refl
refusal_at-number SharedName = refl
refusal_at-number PartRule = refl
refusal_at-number OutcomesFull = refl
refusal_at-number WalkedFull = refl
refusal_at-number ReportsFull = refl
refusal_at-number ManyStarts = refl
refusal_at-number TooDeep = refl
refusal_at-number LongSearch = refl

pub refusal_number-positive : (k : Refusal) → 0 < refusal_number k
refusal_number-positive TooShort = omega arith
refusal_number-positive OverLimit = omega arith
refusal_number-positive Misplaced = omega arith
refusal_number-positive BadNode = omega arith
refusal_number-positive BadRule = omega arith
refusal_number-positive SharedName = omega arith
refusal_number-positive PartRule = omega arith
refusal_number-positive OutcomesFull = omega arith
refusal_number-positive WalkedFull = omega arith
refusal_number-positive ReportsFull = omega arith
refusal_number-positive ManyStarts = omega arith
refusal_number-positive TooDeep = omega arith
refusal_number-positive LongSearch = omega arith

pub refusal_number-nonzero : (k : Refusal) → refusal_number k ≡ 0 → ⊥
refusal_number-nonzero k e = let p = refusal_number-positive k in omega (arith, p, e)

pub refusal_number-injective : (j k : Refusal) → refusal_number j ≡ refusal_number k → j ≡ k
refusal_number-injective j k e = sym (refusal_at-number j) ∙ ap refusal_at e ∙ refusal_at-number k

pub number_of-injective : (x y : Result (Unit {0}) Refusal) → number_of x ≡ number_of y → x ≡ y
number_of-injective (Ok a) (Ok b) e = refl
number_of-injective (Ok a) (Err k) e = absurd (omega (arith, e, refusal_number-positive k))
number_of-injective (Err j) (Ok b) e = absurd (omega (arith, e, refusal_number-positive j))
number_of-injective (Err j) (Err k) e = ap Err (refusal_number-injective j k e)

-- the refusal of a number, or none, is one
pub of_number-one : (n : ℕ) (x y : Option Refusal) → OfNumber n x → OfNumber n y → x ≡ y
of_number-one n None None p q = refl
of_number-one n None (Some k) p q = absurd (p k q)
of_number-one n (Some j) None p q = absurd (q j p)
of_number-one n (Some j) (Some k) p q = ap Some (refusal_number-injective j k (p ∙ sym q))
