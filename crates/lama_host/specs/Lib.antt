pub mod Folder
pub mod Host
pub mod Pieces
pub mod Steps
pub mod Streams
