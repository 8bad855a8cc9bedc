pub mod Told
pub mod Resumed
pub mod Filling
pub mod Nodes
pub mod ValidStates
pub mod Laws
