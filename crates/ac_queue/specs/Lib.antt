-- What contracts see of queues, and what each call leaves and answers.
pub mod Kinds
pub mod QueueStates
pub mod QueueCalls
pub mod Shared
