-- `starts::add` meets its contract. Assumes nothing.
use Rattle.starts.proofs.Spots.{more-starts}
use Rattle.starts.proofs.add.Goals as goal

pub returns : goal.returns
returns c = more-starts c.args.run c.args.state c.requires.0 c.requires.1 c.requires.2
