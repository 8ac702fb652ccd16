-- The definitions of the passes for reasons 1, 2, 4 and 5, of placing reports, and of their final order; then what the code promises of them.
pub mod Report
pub mod TopDown
pub mod LeftRecursion
pub mod Order
pub mod Reasons
pub mod Promise
pub mod Steps
