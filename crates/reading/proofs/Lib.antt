-- The laws of this crate: of names and their words, of kinds, of what is looked at, of marks, and of the promises.
pub mod NameLaws
pub mod KindLaws
pub mod LookLaws
pub mod MarkLaws
pub mod Unique
