-- The definition of the stack pass: names and bounds read, what is remembered, runs of turns, asking, and the pass over all rules.
pub mod Reading
pub mod World
pub mod Runs
pub mod Ask
pub mod Modifies
pub mod StackPass
