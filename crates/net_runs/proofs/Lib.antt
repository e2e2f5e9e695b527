mod CoverLemmas
pub mod EnabledLemmas
pub mod ListLemmas
pub mod PlanLemmas
mod StepLemmas
pub mod WorldLemmas
