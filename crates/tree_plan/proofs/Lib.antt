mod ExampleLemmas
mod FormLemmas
mod MarkedLemmas
pub mod NameLemmas
mod NestedLemmas
mod NumberLemmas
pub mod NumberedLemmas
mod OfficeLemmas
mod QueryLemmas
pub mod StepLemmas
