pub mod TriedRules
pub mod RuleTables
pub mod DefaultValues
pub mod Rounds
pub mod Sound
pub mod Upwards
pub mod FiringLaws
pub mod Written
