pub mod Bounds
pub mod Tests
pub mod Present
pub mod Steps
pub mod Times
pub mod OverLaws
pub mod OneMoreEvent
pub mod PastLaws
