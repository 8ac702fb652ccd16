-- `outcomes::word::encode` meets its contract. Assumes nothing.
use Rattle.outcomes.proofs.Fields.{encode-law}
use Rattle.outcomes.proofs.word.encode.Goals as goal

pub returns : goal.returns
returns c = rw (c.maybe_number-ok.ensures, c.maybe_number-err.ensures) (encode-law c.args.o c.requires)
