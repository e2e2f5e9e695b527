pub mod Checking
pub mod Seeing
