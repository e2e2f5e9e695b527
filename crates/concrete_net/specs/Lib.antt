pub mod Answered
pub mod Executed
pub mod PutOut
pub mod Refused
pub mod Seen
pub mod Sizes
pub mod Taking
