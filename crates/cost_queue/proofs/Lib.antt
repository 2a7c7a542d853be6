pub mod QueueLaws
pub mod WaitingLaws
