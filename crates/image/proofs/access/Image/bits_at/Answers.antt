-- `image::access::Image::bits_at` meets its contract. Assumes nothing.
use Rattle.image.proofs.GrammarLaws.{bits_read}
use Rattle.image.proofs.access.Image.bits_at.Goals as goal

pub returns : goal.returns
returns c = rw (c.node_pos.ensures.0, c.frame.ensures) (bits_read _ _ c.args.self.accepted c.requires)
