pub mod Code
pub mod Executing
pub mod Reading
pub mod Run
