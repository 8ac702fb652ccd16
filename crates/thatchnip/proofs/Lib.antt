-- The laws of the whole check: what its number tells, each return of the entry, and that its promise settles everything.
pub mod Counts
pub mod Entry
pub mod Unique
