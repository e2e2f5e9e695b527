pub mod Answers
pub mod Covers
pub mod Follows
pub mod Laws
pub mod Pairs
