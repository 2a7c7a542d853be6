pub mod Interning
pub mod Registries
pub mod Widths
