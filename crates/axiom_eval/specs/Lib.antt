pub mod Axioms
pub mod Building
pub mod Defaults
pub mod Layers
pub mod Rules
pub mod Settling
pub mod Within
