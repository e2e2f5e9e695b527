mod ActLemmas
mod CodeLemmas
pub mod GuardLemmas
pub mod NumberLemmas
mod RunLemmas
mod StuckLemmas
pub mod EndLemmas
