-- The laws of the starts: states by their numbers, and where a state stands.
pub mod States
pub mod Spots
pub mod Unique
