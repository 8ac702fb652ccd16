-- The number that a text has in decimal, and a number as a length within a buffer. Assumes nothing.
use Rattle.std.specs.Prelude.{ℕ, zero, suc, ◌+◌, ◌-◌, ◌*◌, ◌≤◌, min, ◌≡◌, List, cond, ltb, length, get_or, take, Option, Some, None}

-- the number after one more byte; what is no digit, or past 32 bits, gives 2^32, and so does all that follows
abbrev pub step : ℕ → ℕ → ℕ
step n b =
    let next : ℕ = 10 * n + (b - 48) in
    cond (ltb b 48) 4294967296 (cond (ltb 57 b) 4294967296 (cond (ltb next 4294967296) next 4294967296))

-- the number of the first i bytes
abbrev pub number_to : List ℕ → ℕ → ℕ
number_to text zero = 0
number_to text (suc i) = step (number_to text i) (get_or text i 0)

-- a number of 32 bits, none from 2^32 on
abbrev pub number_if : ℕ → Option ℕ
number_if n = cond (ltb n 4294967296) (Some n) None

-- the number that a text has
abbrev pub number_of : List ℕ → Option ℕ
number_of text = number_if (number_to text (length text))

-- so many bytes of a buffer, or all of them where it has fewer. (What follows from it is stated for those that cut the buffer.)
pub record Within (bytes : ℕ) (buf : List ℕ) (r : ℕ) : Type 0 where
  pub is : r ≡ min bytes (length buf)
  pub inside : r ≤ length buf
  pub taken : r ≡ length (take r buf)
