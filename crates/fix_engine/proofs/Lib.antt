pub mod ProgressLemmas
pub mod RuleLemmas
mod RunLemmas
mod SpaceLemmas
