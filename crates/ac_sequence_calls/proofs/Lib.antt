pub mod SequenceOperations
pub mod EitherOperations
