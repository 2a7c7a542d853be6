pub mod Ending
pub mod Leaves
pub mod Reports
pub mod Requests
pub mod Runs
pub mod Searching
pub mod Seen
pub mod Words
