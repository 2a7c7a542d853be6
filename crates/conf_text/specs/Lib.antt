pub mod Accepted
pub mod AliasConfigs
pub mod Grammar
pub mod Rules
pub mod Tokens
pub mod Written
pub mod AliasNames
