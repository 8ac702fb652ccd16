-- The laws of outcomes: what the code makes, the outcome as one number, states within the limit, and uniqueness.
pub mod Made
pub mod Words
pub mod Within
pub mod Fields
pub mod Unique
pub mod Examples
