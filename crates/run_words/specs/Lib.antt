pub mod Accepted
pub mod Command
pub mod Grammar
pub mod OwnNames
pub mod Requests
pub mod Seen
