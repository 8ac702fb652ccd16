-- `image::access::Image::expr_at` meets its contract. Assumes nothing.
use Rattle.image.proofs.GrammarLaws.{expr_read}
use Rattle.image.proofs.access.Image.expr_at.Goals as goal

pub returns : goal.returns
returns c = rw (c.node_expr.ensures, c.frame.ensures) (expr_read _ _ c.args.self.accepted c.requires)
