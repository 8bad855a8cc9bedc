pub mod Powers
pub mod Earlier
pub mod FirstReason
pub mod Equivalences
