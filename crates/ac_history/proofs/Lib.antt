-- Proofs on histories.
pub mod Left
pub mod LegalHistories
pub mod Runs
pub mod Starts
