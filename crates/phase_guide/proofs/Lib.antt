pub mod PathAnswers
pub mod Few
pub mod Sides
pub mod Sublists
pub mod CarriedOver
pub mod EvaluatorAnswers
pub mod Unions
pub mod LastStates
