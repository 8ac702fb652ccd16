-- `passes::left::run` meets its contract. The invariant: what the rules from i on leave is what all leave. Assumes nothing.
use mathlib.Core.Path.{◌≡◌}
use Rattle.image.specs.Grammar.{grammar}
use Rattle.passes.specs.Promise.{held, left_into}
use Rattle.passes.proofs.Searching.{left_from}
use Rattle.passes.proofs.left.run.Given as goal

abbrev pub invariant-loop-i : goal.invariant-loop-i
invariant-loop-i l = left_from (grammar l.image.bytes.now) l.i (held l.table l.count) ≡ left_into (grammar l.image.bytes.now) 0 (grammar l.image.bytes.now).rules (held l.initial.table l.initial.count)
