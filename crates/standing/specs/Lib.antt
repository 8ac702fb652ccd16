-- What the lent tables hold of a world, and what an answer of the code says of the definition's.
pub mod Stands
pub mod Answers
