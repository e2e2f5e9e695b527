mod BadLemmas
mod ReadLemmas
mod ReplayLemmas
mod RunLemmas
mod SafeLemmas
