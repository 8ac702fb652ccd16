-- A text as bytes, with spaces behind it, and without them; a name as it is shown. Assumes nothing.
use Rattle.std.specs.Prelude.{ℕ, zero, suc, ◌≤◌, ◌≡◌, List, [], ◌∷◌, cond, eqb, ltb, length, get_or, take}
use Prim.Native.String as S
use Prim.Native.String.{String}
use Prim.Native.Char.{code}
use Rattle.image.specs.Lists.{up_to}

-- the bytes of a text
abbrev pub bytes : String → List ℕ
bytes S.[] = []
bytes (S.◌∷◌ c s) = code c ∷ bytes s

-- the first n bytes of a text, with spaces behind it where it has fewer
unfoldable pub pad_to : ℕ → List ℕ → List ℕ
pad_to zero text = []
pad_to (suc n) [] = 32 ∷ pad_to n []
pad_to (suc n) (b ∷ text) = b ∷ pad_to n text

-- from space to tilde a byte is shown as it is, any other as a question mark
abbrev pub plain : ℕ → ℕ
plain b = cond (ltb b 32) 63 (cond (ltb b 127) b 63)

-- the name's bytes as they are shown, then spaces
unfoldable pub plain_line : List ℕ → List ℕ
plain_line name = up_to (λ j. plain (get_or name j 32)) 64

-- the first n bytes without the spaces at their end
abbrev pub trimmed_to : List ℕ → ℕ → ℕ
trimmed_to text zero = 0
trimmed_to text (suc n) = cond (eqb (get_or text n 0) 32) (trimmed_to text n) (suc n)

-- a text without the spaces at its end, as a number of its bytes
pub record Trimmed (text : List ℕ) (r : ℕ) : Type 0 where
  pub is : r ≡ trimmed_to text (length text)
  pub inside : r ≤ length text
  pub taken : r ≡ length (take r text)
