-- The definition of the whole check, and of what it leaves in the lent tables.
pub mod Check
pub mod Exit
pub mod Promise
