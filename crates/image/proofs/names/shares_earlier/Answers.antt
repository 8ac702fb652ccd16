-- `image::names::shares_earlier` meets its contract. Assumes nothing.
use mathlib.Core.Path.{refl}
use Rattle.std.proofs.Common.{rules}
use Rattle.image.specs.Refusal.{share_name, shares_earlier}
use Rattle.image.proofs.RangeLaws.{any_range}
use Rattle.image.proofs.names.shares_earlier.Goals as goal

pub returns : goal.returns
unfolding share_name shares_earlier
returns c = any_range (share_name c.args.rules.now c.args.i) _ _ _ (cc) refl c.any.ensures.ran (λ x b q k. search rules)
