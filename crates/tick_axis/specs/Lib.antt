pub mod Places
pub mod Marks
pub mod Groups
pub mod Laws
pub mod Examples
