pub mod ByNumber
pub mod Networks
pub mod Orders
pub mod UnderWay
pub mod Values
