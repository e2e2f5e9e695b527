pub mod Example
pub mod Radix
pub mod StoredLemmas
