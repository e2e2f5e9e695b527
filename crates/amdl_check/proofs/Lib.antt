pub mod CheckLemmas
pub mod FaultLemmas
