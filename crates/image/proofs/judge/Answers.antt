-- `image::judge` meets its contract. Assumes nothing.
use mathlib.Core.Path.{sym, ◌∙◌}
use Rattle.image.proofs.Accept.{framed_of}
use Rattle.image.proofs.judge.Goals as goal

pub invariant_of-frame : goal.invariant_of-frame
invariant_of-frame c = framed_of _ (sym c.over_limit.ensures ∙ c.if-over_limit.false) (sym c.is_misplaced.ensures ∙ c.if-is_misplaced.false)
