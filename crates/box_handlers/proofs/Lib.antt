pub mod BodyLemmas
mod AskedLemmas
mod FillLemmas
mod ExampleLemmas
mod MemberLemmas
mod FitLemmas
