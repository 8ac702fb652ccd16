-- The starred cases of document 01 and the images they speak of.
pub mod Images
pub mod Starred
