-- `image::access::Image::rules` meets its contract. Assumes nothing.
use Rattle.image.proofs.GrammarLaws.{rules_read}
use Rattle.image.proofs.access.Image.rules.Goals as goal

pub invariant_of-result : goal.invariant_of-result
invariant_of-result c = rw c.frame.ensures (rules_read _ c.args.self.accepted).1
