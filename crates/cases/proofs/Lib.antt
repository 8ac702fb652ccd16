-- The starred cases, by computation.
pub mod Starred
pub mod ShutOut
