-- `outcomes::word::decode` meets its contract. Assumes nothing.
use Rattle.outcomes.proofs.Fields.{ok-number, err-number, decode-law}
use Rattle.outcomes.proofs.word.decode.Goals as goal

pub maybe_at-requires : goal.maybe_at-requires
maybe_at-requires c = ok-number c.args.v c.requires

pub maybe_at-requires-2 : goal.maybe_at-requires-2
maybe_at-requires-2 c = err-number c.args.v c.requires

pub returns : goal.returns
returns c = decode-law c.args.v c.maybe_at.ensures c.maybe_at-2.ensures
