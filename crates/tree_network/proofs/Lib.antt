mod EndLemmas
mod FieldLemmas
mod ItemLemmas
mod PassLemmas
mod PlaceLemmas
mod PlanLemmas
mod TupleLemmas
