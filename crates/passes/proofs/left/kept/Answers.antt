-- `passes::left::kept` meets its contract. Assumes nothing.
use Rattle.std.specs.Prelude.{◌++◌, length, drop, replicate}
use Rattle.std.proofs.lemmas.List.{drop-replicate}
use mathlib.Core.Path.{ap, ◌∙◌}
use Rattle.passes.proofs.Searching.{trail-kept}
use Rattle.passes.proofs.left.kept.Goals as goal

pub returns : goal.returns
returns c =
    trail-kept c.args.rules.now _ c.requires
    (ap (λ l. l ++ drop (length c.args.rules.now) (replicate 257 0)) c.copy_from_slice.ensures.after ∙ ap (λ l. c.args.rules.now ++ l) (drop-replicate (length c.args.rules.now) 257 0))
