pub mod Near
pub mod Walks
