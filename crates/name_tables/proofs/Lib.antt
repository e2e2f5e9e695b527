pub mod MapLemmas
pub mod RepeatLemmas
