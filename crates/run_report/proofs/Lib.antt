mod Codes
mod CompleteRuns
mod EndedTurn
mod TurnEvents
mod Lists
pub mod PhaseSteps
pub mod OneMorePlan
pub mod PhaseOrder
