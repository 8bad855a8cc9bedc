pub mod KeyCalls
pub mod SetCalls
pub mod MapCalls
pub mod Maps
pub mod Sets
pub mod KeyedSets
