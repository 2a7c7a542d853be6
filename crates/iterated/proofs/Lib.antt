pub mod PhaseSearches
pub mod PhaseEndLaws
