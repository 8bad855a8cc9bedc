-- A block in memory: its queues and tasks, what its steps want of them, and what the history says of both.
pub mod Books
pub mod Running
pub mod Tasks
