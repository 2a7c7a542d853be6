pub mod Runs
pub mod Queues
pub mod Lists
pub mod Items
