pub mod Answering
pub mod Fronts
pub mod Laws
pub mod Readings
pub mod Resolved
pub mod Spelled
pub mod Written
