-- The methods of `Looking` in one cycle of calls: that each follows its definition. Assumes nothing.
use Prim.Native.Nat.{◌<◌, ◌-◌}
use native.Mathlib.Omega.{arith}
use mathlib.Core.Path.{◌∙◌}
use Rattle.image.proofs.GrammarLaws.{formed}
use Rattle.reading.specs.declared.looks.Look.TheVariants.{Named}
use Rattle.reading.proofs.NameLaws.{number-told, changes-by-name, rule-read, rule-read-below}
use Rattle.reading.proofs.LookLaws.{ident-of-look}
use Rattle.reading.proofs.MarkLaws.{name-changes, name-rule, node-follows, node-keeps, node-changes, node-one, node-left, node-right, rule-out, rule-seen, rule-new}
use Rattle.reading.proofs.skips.Looking.+modifying.Goals.{rule_modifies-then-unseen-eq0-via-then-unseen-eq0, rule_modifies-then-unseen-eq0-via-else-unseen-eq0+then-self-i}
use Rattle.reading.proofs.skips.Looking.+modifying.Goals as goal

pub name_modifies-builtin_at-requires : goal.name_modifies-builtin_at-requires
name_modifies-builtin_at-requires t c = omega (arith, c.requires.node, (formed _ c.args.self.now.names.image.accepted).few-nodes)

pub name_modifies-rule_at-requires : goal.name_modifies-rule_at-requires
name_modifies-rule_at-requires t c = omega (arith, c.requires.node, (formed _ c.args.self.now.names.image.accepted).few-nodes)

pub name_modifies-found_modifies-requires : goal.name_modifies-found_modifies-requires
name_modifies-found_modifies-requires t c = let p = c.requires in
    (omega (arith, c.decreases), rule-read-below _ _ _ _ _ c.args.self.now.names.image.accepted c.args.self.now.names.resolved p.node p.ident _ c.rule_at.ensures)

pub name_modifies-returns-then-is_some_and-clause-follows : goal.name_modifies-returns-then-is_some_and-clause-follows
name_modifies-returns-then-is_some_and-clause-follows t c = let p = c.requires in
    λ at len e. name-changes _ _ _ _ _ (changes-by-name _ _ _ (number-told _ _ _ at len c.args.self.now.names.image.accepted c.args.self.now.names.resolved p.node e _ c.builtin_at.ensures) c.is_some_and.ensures)
    c.if-is_some_and.true

pub name_modifies-returns-else-is_some_and-clause-follows : goal.name_modifies-returns-else-is_some_and-clause-follows
name_modifies-returns-else-is_some_and-clause-follows t c = let p = c.requires in
    λ at len e. name-rule _ _ _ _ _ _ _ _ (changes-by-name _ _ _ (number-told _ _ _ at len c.args.self.now.names.image.accepted c.args.self.now.names.resolved p.node e _ c.builtin_at.ensures) c.is_some_and.ensures)
    c.if-is_some_and.false (rule-read _ _ _ at len c.args.self.now.names.image.accepted c.args.self.now.names.resolved p.node e _ c.rule_at.ensures) c.found_modifies.ensures.follows

pub node_modifies-returns-in-Keeps-clause-follows : goal.node_modifies-returns-in-Keeps-clause-follows
node_modifies-returns-in-Keeps-clause-follows t c = node-keeps _ _ _ _ (c.look_at.ensures.is ∙ c.in-Keeps.is)

pub node_modifies-returns-in-Changes-clause-follows : goal.node_modifies-returns-in-Changes-clause-follows
node_modifies-returns-in-Changes-clause-follows t c = node-changes _ _ _ _ (c.look_at.ensures.is ∙ c.in-Changes.is)

pub node_modifies-returns-in-Named-clause-follows : goal.node_modifies-returns-in-Named-clause-follows
node_modifies-returns-in-Named-clause-follows t c = let q = c.look_at.ensures.is ∙ c.in-Named.is in
    node-follows _ _ _ (Named c.in-Named.field-0 c.in-Named.field-1) _ _ _ q
    (λ bound h. c.name_modifies.ensures.follows c.in-Named.field-0 c.in-Named.field-1 (ident-of-look _ _ _ q))

pub node_modifies-returns-in-One-clause-follows : goal.node_modifies-returns-in-One-clause-follows
node_modifies-returns-in-One-clause-follows t c = let v : c.in-One.part < c.args.n = rw c.in-One.is at c.look_at.ensures.below in
    node-one _ _ _ _ _ _ _ (c.look_at.ensures.is ∙ c.in-One.is) v c.node_modifies.ensures.follows

pub node_modifies-returns-then-node_modifies-clause-follows : goal.node_modifies-returns-then-node_modifies-clause-follows
node_modifies-returns-then-node_modifies-clause-follows t c = let v : (c.in-Two.left < c.args.n) × (c.in-Two.right < c.args.n) = rw c.in-Two.is at c.look_at.ensures.below in
    node-left _ _ _ _ _ _ _ _ (c.look_at.ensures.is ∙ c.in-Two.is) v.0 c.if-node_modifies.true c.node_modifies-in-Two.ensures.follows

pub node_modifies-returns-else-node_modifies-clause-follows : goal.node_modifies-returns-else-node_modifies-clause-follows
node_modifies-returns-else-node_modifies-clause-follows t c = let v : (c.in-Two.left < c.args.n) × (c.in-Two.right < c.args.n) = rw c.in-Two.is at c.look_at.ensures.below in
    node-right _ _ _ _ _ _ _ _ _ _ (c.look_at.ensures.is ∙ c.in-Two.is) v.0 v.1 c.if-node_modifies.false c.node_modifies-in-Two.ensures.follows
    (rw c.node_modifies-in-Two.ensures.same.image at c.node_modifies-else-node_modifies.ensures.follows)

pub rule_modifies-returns-then-unseen-eq0-clause-follows : goal.rule_modifies-returns-then-unseen-eq0-clause-follows
rule_modifies-returns-then-unseen-eq0-clause-follows t c =
    elim c.then-unseen-eq0.branch [
      | rule_modifies-then-unseen-eq0-via-then-unseen-eq0 w ↦ rule-out _ _ _ _ w.if-unseen-eq0.true
      | rule_modifies-then-unseen-eq0-via-else-unseen-eq0+then-self-i w ↦
          rule-seen _ _ c.args.i _ (omega (arith, c.requires, (formed _ c.args.self.now.names.image.accepted).few-rules)) w.if-self-i.true
    ]

pub rule_modifies-returns-clause-follows : goal.rule_modifies-returns-clause-follows
rule_modifies-returns-clause-follows t c =
    rule-new _ c.args.unseen (c.args.unseen - 1) c.args.i c.root_at.result _ _ _ (omega arith)
    (omega (arith, c.requires, (formed _ c.args.self.now.names.image.accepted).few-rules)) c.if-self-i.false c.root_at.ensures.is c.node_modifies.ensures.follows
