pub mod Found
pub mod Laws
pub mod Messages
pub mod Prints
pub mod Text
