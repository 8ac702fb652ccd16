-- `turns::report` meets its contract. Assumes nothing.
use Rattle.turns.proofs.Placing.{report-held, report-marked, report-full, report-placed}
use Rattle.turns.proofs.report.Goals as goal
use Rattle.turns.proofs.report.Goals.{then-held-via-then-held, then-held-via-else-held+then-marks-n-eq1}

pub returns-then-held : goal.returns-then-held
returns-then-held c =
    elim c.then-held.branch [
      | then-held-via-then-held w ↦ report-held c.held_back-held.ensures w.if-held.true
      | then-held-via-else-held+then-marks-n-eq1 w ↦ report-marked c.held_back-held.ensures w.if-held.false w.if-marks-n-eq1.true
    ]

pub returns-then-table-count : goal.returns-then-table-count
returns-then-table-count c = report-full c.held_back-held.ensures c.if-held.false c.if-marks-n-eq1.false c.if-table-count.true

pub returns : goal.returns
returns c = report-placed c.held_back-held.ensures c.if-held.false c.if-marks-n-eq1.false c.if-table-count.false c.pack.ensures c.set_word.ensures
