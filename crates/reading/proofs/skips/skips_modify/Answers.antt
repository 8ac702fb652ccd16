-- `reading::skips::skips_modify` meets its contract. Assumes nothing.
use Rattle.image.specs.Grammar.{grammar}
use Rattle.reading.proofs.MarkLaws.{skips-first, skips-second}
use Rattle.reading.proofs.skips.skips_modify.Goals as goal

pub returns-then-found_modifies : goal.returns-then-found_modifies
returns-then-found_modifies c = skips-first (grammar c.args.names.image.bytes.now) c.rule_count-unseen.result c.find_rule.result c.find_rule.result c.rule_count-unseen.ensures c.find_rule.ensures.is _ _ c.if-found_modifies.true c.found_modifies.ensures.follows

pub returns-else-found_modifies : goal.returns-else-found_modifies
returns-else-found_modifies c = let h = c.found_modifies.ensures in
    skips-second (grammar c.args.names.image.bytes.now) c.rule_count-unseen.result c.find_rule.result c.find_rule-else-found_modifies.result c.rule_count-unseen.ensures c.find_rule.ensures.is _ _ _ _
    c.find_rule-else-found_modifies.ensures.is c.if-found_modifies.false h.follows (rw h.same.image at c.found_modifies-else-found_modifies.ensures.follows)
