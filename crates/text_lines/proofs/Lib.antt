pub mod Cuts
pub mod LineLaws
