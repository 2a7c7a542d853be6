pub mod Lookups
pub mod Places
pub mod Slots
pub mod JournalSteps
pub mod Ticks
pub mod FirstContent
