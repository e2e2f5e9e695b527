pub mod Answer
pub mod Front
pub mod Laws
pub mod Sign
