-- `stack::AbsStack::join` meets its contract. Assumes nothing.
use mathlib.Core.Path.{◌≡◌}
use mathlib.Core.Bool.{◌&&◌, false}
use native.Mathlib.Omega.{arith}
use Rattle.std.proofs.lemmas.Bool.Decides.{nat_tests}
use Rattle.std.proofs.Common.{rules}
use Rattle.stack.specs.State.{all_blank}
use Rattle.stack.specs.Promise.{state_of}
use Rattle.stack.proofs.Fields.{join-equal, join-blanks, join-unknown, no-entries}
use Rattle.stack.proofs.AbsStack.join.Goals as goal

pub returns-then-self : goal.returns-then-self
returns-then-self c =
    join-equal c.args.self c.args.other _ _ c.requires.0 c.requires.1 c.if-self-other.true (search rules) (grind (arith, nat_tests))

pub returns-else-self : goal.returns-else-self
returns-else-self c =
    join-equal c.args.self c.args.other _ _ c.requires.0 c.requires.1 c.if-self-other.true (search rules) (grind (arith, nat_tests))

pub returns-then-all_blank-2 : goal.returns-then-all_blank-2
returns-then-all_blank-2 c = no-entries (join-blanks c.args.self c.args.other c.if-self-other.false (grind (arith, nat_tests)))

pub returns-else-all_blank : goal.returns-else-all_blank
returns-else-all_blank c =
    let e : (all_blank (state_of c.args.self) && all_blank (state_of c.args.other)) ≡ false = search rules in
    no-entries (join-unknown c.args.self c.args.other c.if-self-other.false e)
