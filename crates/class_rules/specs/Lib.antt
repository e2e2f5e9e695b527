pub mod ByTables
pub mod FirstRules
pub mod Reads
