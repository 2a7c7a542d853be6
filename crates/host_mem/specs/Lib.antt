pub mod Calls
pub mod Journal
pub mod Memory
pub mod Outcomes
pub mod Says
pub mod Scripts
pub mod Sinks
pub mod Times
