-- Proofs of task blocks.
pub mod Alike
pub mod Beginning
pub mod Ending
pub mod KindsKept
pub mod Shared
pub mod Turning
