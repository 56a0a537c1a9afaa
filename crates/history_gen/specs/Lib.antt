pub mod Generated
pub mod LastWrites
pub mod Generator
pub mod Laws
