pub mod InOrder
pub mod Moments
pub mod Laws
pub mod Examples
