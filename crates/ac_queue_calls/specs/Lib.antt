pub mod QueueCalls
