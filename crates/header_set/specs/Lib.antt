pub mod Headers
pub mod Laws
pub mod Pattern
pub mod Stored
