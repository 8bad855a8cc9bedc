-- Task blocks that workers run: what a round does, and what a block that has come to its end is.
pub mod Ends
pub mod Rounds
