-- What the turns of a run that ask nothing promise.
pub mod Promise
