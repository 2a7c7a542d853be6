pub mod Closing
pub mod Ends
pub mod Following
pub mod Iterating
pub mod Searches
