pub mod Companies
pub mod RowsByFact
pub mod OrderTests
pub mod ListLaws
pub mod OrderPaths
pub mod PairOrder
