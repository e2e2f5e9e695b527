pub mod ClassLemmas
pub mod CountLemmas
pub mod FormLemmas
pub mod ReadLemmas
pub mod SizeLemmas
pub mod TypeLemmas
pub mod UnknownLemmas
