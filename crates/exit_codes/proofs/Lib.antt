pub mod SetLaws
pub mod CriticalLaws
pub mod FlagLaws
pub mod PartLaws
