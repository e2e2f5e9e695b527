pub mod ByHand
pub mod Laws
pub mod Paths
pub mod Walks
