-- The laws of this crate: words put into a table and the places that reports take, the nodes below a node, the final order, a place in it and that it is a stable sort,
-- the search for left recursion, how many reports there are, and that promises settle results.
pub mod Laying
pub mod Places
pub mod Downs
pub mod Ordering
pub mod Chunks
pub mod Stable
pub mod Searching
pub mod FewReports
pub mod FewRecursions
pub mod Unique
