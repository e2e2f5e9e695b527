pub mod Entries
pub mod Held
mod Searched
