pub mod Branches
pub mod Conditions
pub mod Growing
pub mod Nodes
pub mod Trees
pub mod Walks
