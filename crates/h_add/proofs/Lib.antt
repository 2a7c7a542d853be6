pub mod ReachedSums
pub mod ListGrowth
pub mod Steps
pub mod NumberedRounds
pub mod EvaluatedLaws
