pub mod TreeCalls
pub mod ListedNodes
