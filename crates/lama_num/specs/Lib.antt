pub mod Decimals
pub mod Estimates
pub mod Gives
pub mod Names
pub mod Rows
pub mod Bounds
