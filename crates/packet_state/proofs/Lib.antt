mod BoxlessLemmas
pub mod CoverLemmas
pub mod ListLemmas
pub mod MaskLemmas
mod PairLemmas
pub mod RangeLemmas
pub mod RunLemmas
