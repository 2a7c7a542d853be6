pub mod NameLength
pub mod DecimalDigits
pub mod RowLaws
pub mod DecimalLaws
pub mod ListLaws
pub mod NameLaws
pub mod BoolLaws
