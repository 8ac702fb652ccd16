-- The definitions of the outcomes crate: what the code's promises say, and the outcome as one number.
pub mod Promise
pub mod Word
