pub mod ByTables
pub mod CellsLast
pub mod Chains
pub mod Counts
pub mod Found
