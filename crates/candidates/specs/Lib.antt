pub mod ChildFiles
pub mod Collecting
pub mod Judging
pub mod Plans
pub mod Whole
