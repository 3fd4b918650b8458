pub mod Queues
pub mod Statements
pub mod QueueLaws
