pub mod Plans
pub mod Letters
pub mod Routes
pub mod FirstReplies
pub mod Clients
pub mod Parts
