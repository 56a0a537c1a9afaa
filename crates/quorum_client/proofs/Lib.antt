pub mod WholePlans
pub mod Replies
pub mod Sent
pub mod Called
