pub mod CapLemmas
pub mod GuardLemmas
pub mod SizeLemmas
