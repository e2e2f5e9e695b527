pub mod Coded
pub mod Search
pub mod Sites
pub mod Spots
pub mod Stored
pub mod Tables
