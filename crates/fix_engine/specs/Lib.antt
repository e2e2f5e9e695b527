pub mod Closed
pub mod Progress
pub mod Rules
pub mod Runs
pub mod Space
