-- Laws that the proofs of the words share, and that each promise settles its result.
pub mod Laws
pub mod Unique
