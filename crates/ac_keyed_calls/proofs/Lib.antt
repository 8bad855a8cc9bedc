mod Alike
pub mod OwnInserted
mod SetOperations
pub mod Entries
pub mod MapOperations
pub mod EitherMap
pub mod EitherSet
pub mod EitherKeyedSet
pub mod KeyedOperations
pub mod MapWords
pub mod PutEntries
