-- The picture of a state's stack: a cell of 8 bytes for each entry, the bottom one first. Assumes nothing.
use Rattle.std.specs.Prelude.{ℕ, ◌/◌, ◌%◌, ◌^◌, List, [], Bool, cond, eqb, ltb, get_or}
use Rattle.image.specs.Lists.{up_to}
use Rattle.words.specs.Line.{bytes}

-- "blank + 256 × len + ..": how many entries are tracked
abbrev pub entries : ℕ → ℕ
entries state = state / 256 % 16

-- entry i stands, counted from the bottom
abbrev pub is_entry : ℕ → ℕ → Bool
is_entry state i = ltb i (entries state)

-- its blank bit is set: it is surely of length 0
abbrev pub is_blank : ℕ → ℕ → Bool
is_blank state i = eqb (state / 2 ^ i % 2) 1

-- the cell of entry i; there is none above the top
abbrev pub cell : ℕ → ℕ → List ℕ
cell state i = cond (is_entry state i) (cond (is_blank state i) (bytes "[blank] ") (bytes "[  ?  ] ")) []

-- the byte at place j, a space above the top
unfoldable pub cell_byte : ℕ → ℕ → ℕ
cell_byte state j = get_or (cell state (j / 8)) (j % 8) 32

unfoldable pub picture : ℕ → List ℕ
picture state = up_to (cell_byte state) 64
