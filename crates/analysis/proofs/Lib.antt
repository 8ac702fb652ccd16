-- The laws that the cycle's proof cites, in reading order.
pub mod On
pub mod Parts
pub mod OneStep
pub mod Visiting
pub mod Loops
pub mod Reporting
pub mod Repeats
pub mod WholePass
pub mod Unique
