-- What a report number says, and what it tells of a grammar.
pub mod Report
pub mod Told
