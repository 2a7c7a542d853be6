pub mod OperatorTables
pub mod RunLaws
pub mod TableLaws
pub mod RunEndLaws
