-- The refusals as values, and their numbers in document 01's table; 0 where nothing is refused. Assumes nothing.
use Rattle.std.specs.Prelude.{ℕ, ◌≡◌, Result, Ok, Err, Option, Some, None}
use Rattle.image.specs.declared.refusal.Refusal.{Refusal}
use Rattle.image.specs.declared.refusal.Refusal.TheVariants.{TooShort, OverLimit, Misplaced, BadNode, BadRule, SharedName, PartRule, OutcomesFull, WalkedFull, ReportsFull, ManyStarts, TooDeep, LongSearch}

abbrev pub refusal_number : Refusal → ℕ
refusal_number TooShort = 1
refusal_number OverLimit = 2
refusal_number Misplaced = 3
refusal_number BadNode = 4
refusal_number BadRule = 5
refusal_number SharedName = 6
refusal_number PartRule = 7
refusal_number OutcomesFull = 8
refusal_number WalkedFull = 9
refusal_number ReportsFull = 10
refusal_number ManyStarts = 11
refusal_number TooDeep = 12
refusal_number LongSearch = 13

-- the number of a refusal, 0 of an answer
abbrev pub number_of : {A : Type 0} → Result A Refusal → ℕ
number_of (Ok a) = 0
number_of (Err k) = refusal_number k

-- whether a result is the refusal that has a number, or none where no refusal has it
abbrev pub OfNumber : ℕ → Option Refusal → Type 0
OfNumber n (Some k) = refusal_number k ≡ n
OfNumber n None = (k : Refusal) → refusal_number k ≡ n → ⊥
