-- What a search for changes of the stack leaves as it was.
use Rattle.std.specs.Prelude.{◌≡◌}
use Rattle.reading.specs.declared.skips.Looking.{Looking}

-- the image and its names
pub record SameImage (before after : Looking) : Type 0 where
  pub image : after.names.image.bytes.now ≡ before.names.image.bytes.now
  pub names : after.names.words.now ≡ before.names.words.now
