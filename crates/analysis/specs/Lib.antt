-- What the methods of the pass and its public function ask and promise.
pub mod Methods
pub mod Promise
