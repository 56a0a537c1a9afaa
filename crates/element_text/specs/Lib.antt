pub mod Elements
pub mod Gains
pub mod Reading
pub mod Laws
pub mod Examples
