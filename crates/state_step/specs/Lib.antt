pub mod RunEnds
pub mod Stepper
pub mod Steps
pub mod Tables
