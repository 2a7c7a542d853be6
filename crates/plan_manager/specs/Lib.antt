pub mod Clearing
pub mod Comparing
pub mod Family
pub mod Keeping
pub mod Sealing
pub mod TextRests
