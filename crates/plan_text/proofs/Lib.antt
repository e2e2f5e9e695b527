mod DigitLemmas
mod LawLemmas
mod ListedLemmas
mod PlanLemmas
