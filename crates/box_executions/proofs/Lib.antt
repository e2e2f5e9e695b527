mod ExampleLemmas
pub mod ExistLemmas
pub mod FrontLemmas
pub mod KeepLemmas
pub mod OnceLemmas
pub mod RangeLemmas
mod TableLemmas
