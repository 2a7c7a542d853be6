pub mod Accepted
pub mod Estimates
pub mod Preferred
pub mod Rows
pub mod Statuses
