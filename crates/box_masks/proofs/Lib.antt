pub mod BitLemmas
pub mod MaskLemmas
