-- `starts::any_same_top` meets its contract. Assumes nothing.
use Rattle.std.proofs.Common.{rules, tests, arith, ◌==◌, ◌%◌, ◌∙◌}
use Rattle.std.proofs.lemmas.Iterator.{YieldsList-from_slice}
use Rattle.std.proofs.lemmas.Iterator.Search.{any_from_yields_List}
use Rattle.starts.proofs.Spots.{match-found}
use Rattle.starts.proofs.any_same_top.Goals as goal

pub returns : goal.returns
returns c =
    any_from_yields_List (λ there. c.args.state % 4096 == there % 4096) _ _ c.any.result c.any.ensures.ran (YieldsList-from_slice _ cc) (λ x b q k. search (rules, tests))
    ∙ match-found c.args.run.states c.args.state c.requires.1 c.args.run.count (omega (arith, c.requires.0.few, c.requires.0.long)) c.requires.0.each
