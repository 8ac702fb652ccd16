-- What the promises of the starts say.
pub mod Promise
