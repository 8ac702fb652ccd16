-- `words::line::shown` meets its contract. Assumes nothing.
use Rattle.std.proofs.Common.{rules, get_or}
use Rattle.words.specs.Line.{plain, plain_line}
use Rattle.words.proofs.Laws.{up_to-from_fn}
use Rattle.words.proofs.line.shown.Goals as goal

pub returns : goal.returns
unfolding plain_line
returns c = up_to-from_fn _ (λ j. plain (get_or c.args.name.now j 32)) _ _ 64 c.from_fn.ensures.items (λ k y q w. (search rules, search rules))
