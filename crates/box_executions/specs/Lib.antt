pub mod Environment
pub mod Example
pub mod Execution
pub mod Guard
pub mod Laws
pub mod Shape
pub mod Table
