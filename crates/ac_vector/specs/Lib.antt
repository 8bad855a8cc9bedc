pub mod ArrayFields
pub mod ArrayLends
pub mod Turn
pub mod Parts
pub mod Popped
pub mod Stacks
