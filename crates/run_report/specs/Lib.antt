pub mod Clocks
pub mod Complete
pub mod Events
pub mod Plans
pub mod Runs
pub mod Searches
pub mod Tells
pub mod Turns
