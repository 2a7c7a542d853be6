pub mod WithinLimits
pub mod BuiltIn
pub mod Commas
pub mod WordLengths
pub mod ReadingBack
pub mod Readings
pub mod Turns
pub mod GuideKinds
