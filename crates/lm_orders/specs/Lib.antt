pub mod Givers
pub mod Interference
pub mod Reasonable
pub mod Sources
pub mod Tables
