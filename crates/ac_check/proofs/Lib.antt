pub mod Groups
pub mod NameOrders
pub mod Names
pub mod Blocks
pub mod Resolving
pub mod TaskScopes
pub mod Verdicts
pub mod RowsOf
