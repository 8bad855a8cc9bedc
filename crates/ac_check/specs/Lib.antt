pub mod Meanings
pub mod NameOrders
pub mod Rows
pub mod Views
pub mod BlockHeads
pub mod NamedHandlers
