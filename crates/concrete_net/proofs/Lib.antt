pub mod CauseLemmas
mod ChannelLemmas
mod DeliveryLemmas
pub mod OnceLemmas
mod OutputLemmas
mod PortLemmas
mod TableLemmas
mod TakeLemmas
