pub mod SequenceCalls
pub mod Sequences
