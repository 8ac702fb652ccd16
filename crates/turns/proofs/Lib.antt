-- The laws of the turns: one copy of a run, one step of a search, one report, and uniqueness.
pub mod Copies
pub mod Hunts
pub mod Placing
pub mod Reports
pub mod Unique
