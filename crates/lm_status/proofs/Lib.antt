pub mod Afters
pub mod Loops
pub mod Ranges
pub mod Sums
pub mod Tables
