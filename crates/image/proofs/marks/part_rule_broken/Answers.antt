-- `image::marks::part_rule_broken` meets its contract. Assumes nothing.
use native.Mathlib.Omega.{arith}
use mathlib.Core.Bool.{true, false}
use mathlib.Core.Path.{◌≡◌, ap, ◌∙◌}
use Rattle.image.specs.Lists.{any_below}
use Rattle.image.specs.Layout.{node_count}
use Rattle.image.specs.Grammar.{grammar, used}
use Rattle.image.specs.Refusal.{not_once, part_not_below, part_rule_broken}
use Rattle.image.proofs.TallyLaws.{tally-start, once-all}
use Rattle.image.proofs.marks.part_rule_broken.Goals as goal

pub returns-then-any_not_below : goal.returns-then-any_not_below
unfolding part_rule_broken
returns-then-any_not_below c = let s = c.args.rules.now in
    let e : any_below (part_not_below s) (node_count s) ≡ true = cc in
    rw e

pub mark_parts-requires : goal.mark_parts-requires
mark_parts-requires c = (cc, tally-start _)

pub returns : goal.returns
unfolding part_rule_broken
returns c = let s = c.args.rules.now in
    let e : any_below (part_not_below s) (node_count s) ≡ false = cc in
    let n : c.node_count.result ≡ node_count s = cc in
    rw e (c.any_not_one.ensures ∙ (once-all s _ c.node_count.result (omega arith) c.mark_roots.ensures ∙ ap (any_below (not_once (used (grammar s)))) n))
