-- The reasons of a report as values, and their numbers in document 01. Assumes nothing.
use Rattle.std.specs.Prelude.{ℕ}
use Rattle.passes.specs.declared.placing.Reason.{Reason}
use Rattle.passes.specs.declared.placing.Reason.TheVariants.{RepetitionCannotFail, NotProgressing, ChoiceUnreachable, LeftRecursion}

abbrev pub reason_number : Reason → ℕ
reason_number RepetitionCannotFail = 1
reason_number NotProgressing = 2
reason_number ChoiceUnreachable = 4
reason_number LeftRecursion = 5
