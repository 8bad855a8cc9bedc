-- Proofs of the queues.
pub mod Places
pub mod SameQueues
