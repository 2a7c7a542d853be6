pub mod Rows
pub mod Tracks
