pub mod FilesLemmas
pub mod HostLemmas
pub mod KeepingLemmas
pub mod NamingLemmas
pub mod SinkLemmas
pub mod StreamLemmas
