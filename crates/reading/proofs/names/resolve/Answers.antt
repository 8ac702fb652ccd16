-- `reading::names::resolve` meets its contract: there are at most 2,048 nodes. Assumes nothing.
use native.Mathlib.Omega.{arith}
use lib.ListN.{length-set}
use mathlib.Core.Path.{◌∙◌}
use Rattle.image.specs.Grammar.{grammar}
use Rattle.image.proofs.GrammarLaws.{accepted}
use Rattle.reading.proofs.NameLaws.{words_more}
use Rattle.reading.proofs.names.resolve.Goals as goal

pub offset_bounds-names-n : goal.offset_bounds-names-n
offset_bounds-names-n c =
    let few = (accepted _ c.args.image.accepted).formed.few-nodes in
    omega (arith, few, c.node_count-count.ensures, c.loop-n-test.true)

pub bounds-names-n : goal.bounds-names-n
bounds-names-n c =
    let few = (accepted _ c.args.image.accepted).formed.few-nodes in
    omega (arith, few, c.node_count-count.ensures, c.loop-n-test.true)

pub loop-n-preserved : goal.loop-n-preserved
loop-n-preserved c =
    let few = (accepted _ c.args.image.accepted).formed.few-nodes in
    let names = c.loop-n.names in
    let n = c.loop-n.n in
    let inv = c.loop-n.invariant in (
      length-set names n c.word_at.result ∙ inv.0,
      words_more (grammar c.args.image.bytes.now) names n c.word_at.result (omega (arith, few, inv.0, c.node_count-count.ensures, c.loop-n-test.true)) inv.1 c.word_at.ensures,
    )
