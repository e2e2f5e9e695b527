pub mod BitLemmas
mod FixedLemmas
mod ListLemmas
mod RunLemmas
mod SearchLemmas
mod SpotLemmas
mod StoredLemmas
pub mod TableLemmas
