pub mod Orders
pub mod Places
pub mod Ready
pub mod RelaxedPlans
