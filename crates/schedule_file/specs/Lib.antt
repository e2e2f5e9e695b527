pub mod Laws
pub mod Messages
pub mod Reading
pub mod Replaying
