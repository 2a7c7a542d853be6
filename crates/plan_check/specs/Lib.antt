pub mod Choices
pub mod GoodPlans
pub mod Layers
pub mod Names
pub mod Refusals
pub mod Verdicts
pub mod Walking
