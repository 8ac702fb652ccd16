-- `image::names::same_bytes` meets its contract. Assumes nothing.
use mathlib.Core.Path.{◌∙◌}
use Rattle.image.proofs.ListLaws.{same_pointwise}
use Rattle.image.proofs.names.same_bytes.Goals as goal

pub returns : goal.returns
returns c = c.eq.ensures ∙ same_pointwise _ _
