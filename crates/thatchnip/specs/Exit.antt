-- What the check leaves behind (document 01, "What comes back"): one number, and every byte of the three lent tables. Assumes nothing.
use Rattle.std.specs.Prelude.{List, ℕ, ◌*◌, ◌/◌, length}
use Rattle.tables.specs.Bytes.{zeros}
use Rattle.tables.specs.Words.{laid}
use Rattle.passes.specs.Report.{Result, refused, done}
use Rattle.thatchnip.specs.Check.{check}

-- "The caller lends an outcome table (8 bytes a place), a walked table (4), a report table (8); places are length divided by that,
-- rounded down": the image, and the lengths of the three tables
unfoldable pub checked : List ℕ → ℕ → ℕ → ℕ → Result
checked image outcome_bytes walked_bytes report_bytes = check image (outcome_bytes / 8) (walked_bytes / 4) (report_bytes / 8)

-- "The result is refusal and report count", in one number: count + 2^32 × refusal; "On any refusal the count is 0"
abbrev pub result_number : Result → ℕ
result_number (refused k) = 4294967296 * k
result_number (done reports) = length reports

-- "Both work tables are zero on every return": the bytes of the outcome table or the walked table, by its length
abbrev pub work_bytes : ℕ → List ℕ
work_bytes length = zeros length

-- 8 bytes a report; "report bytes past the count are zero"; "On any refusal .. all three tables are zero"
abbrev pub report_bytes : ℕ → Result → List ℕ
report_bytes length (refused k) = zeros length
report_bytes length (done reports) = laid length reports
