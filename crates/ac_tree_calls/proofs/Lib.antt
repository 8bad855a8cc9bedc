mod NodesListed
mod KeptNodes
mod OwnNodes
mod TreeOperations
mod NodeLooks
mod MetNodes
mod TreeLooks
mod Guarding
pub mod NodesCopied
