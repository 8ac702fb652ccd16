-- `image::access::Image::root_at` meets its contract. Assumes nothing.
use Rattle.image.proofs.GrammarLaws.{root_read}
use Rattle.image.proofs.access.Image.root_at.Goals as goal

pub returns : goal.returns
returns c = rw (c.root_at.ensures.0, c.rules.ensures) (root_read _ _ c.args.self.accepted c.requires)
