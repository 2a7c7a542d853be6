pub mod Sets
pub mod Flags
pub mod Parts
pub mod Combined
