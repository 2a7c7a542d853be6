pub mod LinkNumbers
pub mod Links
pub mod Occurrences
pub mod OneMeaning
pub mod Queues
