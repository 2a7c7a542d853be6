pub mod Bits
pub mod FieldLayout
pub mod FieldReads
