-- The laws: tables against worlds, places taken and values stored, questions in a row, and the definition case by case.
pub mod Maps
pub mod Moves
pub mod Looks
pub mod Visits
pub mod Given
pub mod Along
pub mod Asks
pub mod RunSteps
