mod ReadLemmas
mod StatusLemmas
mod TellLemmas
