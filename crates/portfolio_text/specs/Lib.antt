pub mod Accepted
pub mod PortfolioText
