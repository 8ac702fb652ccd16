-- The laws of the whole check: lists, reports read back, nodes that stand in the grammar, what each pass tells, and demand 3.
pub mod Lists
pub mod ReadBack
pub mod Nodes
pub mod Passes
pub mod Demand
pub mod Examples
