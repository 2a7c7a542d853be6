pub mod ChildFiles
pub mod Fronts
pub mod Gathered
pub mod Loop
pub mod Taken
pub mod Verdicts
pub mod CandidateLists
