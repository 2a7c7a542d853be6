pub mod Apart
pub mod Best
pub mod Order
pub mod Places
pub mod Rows
