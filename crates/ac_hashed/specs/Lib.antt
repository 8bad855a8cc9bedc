pub mod Likeness
pub mod Ties
