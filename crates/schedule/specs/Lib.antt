pub mod Laws
pub mod Read
pub mod Replays
pub mod Texts
