pub mod CellLemmas
pub mod EndLemmas
pub mod Linked
mod NameLemmas
mod PartnerLemmas
pub mod Rising
mod StateLemmas
mod TableLemmas
mod ReadLemmas
