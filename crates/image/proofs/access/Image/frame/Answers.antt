-- `image::access::Image::frame` meets its contract. Assumes nothing.
use Rattle.image.proofs.GrammarLaws.{nodes_read}
use Rattle.image.proofs.access.Image.frame.Goals as goal

pub invariant_of-result : goal.invariant_of-result
invariant_of-result c = (nodes_read _ c.args.self.accepted).1
