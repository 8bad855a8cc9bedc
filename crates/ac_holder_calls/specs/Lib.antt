pub mod HolderCalls
