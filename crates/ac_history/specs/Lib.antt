-- Tasks that share queues: what a step does, which histories are legal, and what a block has come to.
pub mod Blocks
pub mod Examples
pub mod Histories
pub mod Orders
pub mod States
pub mod Steps
