mod BitLemmas
pub mod MarkLemmas
pub mod MemberLemmas
mod SetLemmas
mod WordLemmas
