pub mod StateLookUps
pub mod Once
pub mod Vectors
