pub mod FirstFault
pub mod Formats
pub mod Reading
pub mod TaskText
pub mod Walks
