pub mod Slots
pub mod StartLaws
