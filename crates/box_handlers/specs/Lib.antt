pub mod Body
pub mod Example
pub mod Fits
pub mod Laws
pub mod Queries
pub mod Size
pub mod Tuple
