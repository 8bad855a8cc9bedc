pub mod Ascents
pub mod Becoming
pub mod Levels
