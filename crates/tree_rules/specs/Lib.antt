pub mod ByHand
pub mod Checked
pub mod Kinds
pub mod Laws
pub mod Rules
pub mod Spaces
pub mod Uses
