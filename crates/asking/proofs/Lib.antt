-- The laws of asking: what its tests tell, what every answer keeps, runs read off their period, sound answers, limits, demand 3, and how many loops
-- are reported.
pub mod Tests
pub mod Kept
pub mod Lasso
pub mod SoundRuns
pub mod SoundSteps
pub mod Limits
pub mod Repetitions
pub mod Theorems
pub mod ReportedOnce
pub mod FewLoops
