-- `words::picture::picture` meets its contract. Assumes nothing.
use Rattle.std.proofs.Common.{rules}
use Rattle.words.specs.Picture.{cell_byte, picture}
use Rattle.words.proofs.Laws.{up_to-from_fn}
use Rattle.words.proofs.picture.picture.Goals as goal

pub returns : goal.returns
unfolding picture
returns c = up_to-from_fn _ (cell_byte c.args.state) _ _ 64 c.from_fn.ensures.items (λ k y q w. (search rules, search rules))
