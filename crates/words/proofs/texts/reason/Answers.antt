-- `words::texts::reason` meets its contract, text by text. Assumes nothing.
use native.Mathlib.Omega.{arith}
use lib.ListN.{get_or-eq_default}
use Rattle.words.specs.Texts.{reasons}
use Rattle.words.proofs.Laws.{said}
use Rattle.words.proofs.texts.reason.Goals as goal

pub returns-in-0 : goal.returns-in-0
returns-in-0 c = rw c.in-0.is (said _)

pub returns-in-1 : goal.returns-in-1
returns-in-1 c = rw c.in-1.is (said _)

pub returns-in-2 : goal.returns-in-2
returns-in-2 c = rw c.in-2.is (said _)

pub returns-in-3 : goal.returns-in-3
returns-in-3 c = rw c.in-3.is (said _)

pub returns-in-4 : goal.returns-in-4
returns-in-4 c = rw c.in-4.is (said _)

pub returns-in-5 : goal.returns-in-5
returns-in-5 c = rw c.in-5.is (said _)

pub returns-in_default : goal.returns-in_default
returns-in_default c = rw (get_or-eq_default reasons "no reason has this number" {n = c.args.k} (omega arith)) (said _)
