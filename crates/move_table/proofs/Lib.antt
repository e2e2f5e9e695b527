pub mod AddLemmas
mod CoverLemmas
mod CutLemmas
mod EffectLemmas
mod KeptLemmas
mod MarkLemmas
pub mod NoteLemmas
pub mod OfferedLemmas
mod OutsideLemmas
pub mod WithinLemmas
