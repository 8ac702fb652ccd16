-- `reading::names::name_at` meets its contract. Assumes nothing.
use Rattle.std.specs.Prelude.{Some}
use mathlib.Core.Path.{sym, ◌∙◌}
use native.Mathlib.Omega.{arith}
use Rattle.image.proofs.GrammarLaws.{formed}
use Rattle.reading.proofs.NameLaws.{rule-read-below, is-builtin, kind-told, kind-found}
use Rattle.reading.proofs.names.name_at.Goals as goal

pub builtin_at-requires : goal.builtin_at-requires
builtin_at-requires c = omega (arith, c.requires.node, (formed _ c.args.names.image.accepted).few-nodes)

pub rule_at-requires : goal.rule_at-requires
rule_at-requires c = omega (arith, c.requires.node, (formed _ c.args.names.image.accepted).few-nodes)

pub found_name-requires : goal.found_name-requires
found_name-requires c = let p = c.requires in
    rule-read-below _ _ _ _ _ c.args.names.image.accepted c.args.names.resolved p.node p.ident _ c.rule_at.ensures

pub returns-in-Some : goal.returns-in-Some
returns-in-Some c = let p = c.requires in
    record { is = is-builtin _ c.in-Some.builtin ∙ sym (kind-told _ _ _ _ _ c.args.names.image.accepted c.args.names.resolved p.node p.ident _ c.builtin_at.ensures (Some c.in-Some.builtin) c.in-Some.is); below = tt }

pub returns-in-None : goal.returns-in-None
returns-in-None c = let p = c.requires in
    record { is = c.found_name.ensures.is ∙ kind-found _ _ _ _ _ c.args.names.image.accepted c.args.names.resolved p.node p.ident _ c.builtin_at.ensures _ c.rule_at.ensures c.in-None.is; below = c.found_name.ensures.below }
