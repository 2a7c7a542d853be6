pub mod Fits
pub mod Guides
pub mod Kinds
pub mod Landmarks
pub mod Relaxings
