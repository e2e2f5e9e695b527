pub mod Coded
pub mod Effect
pub mod Kept
pub mod Laws
pub mod Marks
pub mod Moves
pub mod Offered
pub mod Within
