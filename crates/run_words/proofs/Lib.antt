pub mod Found
pub mod OnCommand
pub mod RequestLaws
pub mod Rules
pub mod Steps
pub mod ClapWalk
pub mod WordForms
