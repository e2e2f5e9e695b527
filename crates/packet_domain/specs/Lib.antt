pub mod Bounded
pub mod Covered
pub mod Follows
pub mod Inlet
pub mod Laws
pub mod Reasons
pub mod Table
pub mod Worlds
