pub mod Coded
pub mod Fire
pub mod Found
pub mod Lent
pub mod Masks
pub mod Paths
pub mod Step
pub mod Walk
