mod FitLemmas
mod FormLemmas
mod FrontLemmas
mod LineLemmas
mod ListLemmas
